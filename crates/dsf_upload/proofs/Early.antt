-- `hopeful` decides whether a beginning has an accepted continuation; where a file's beginnings turn hopeless; and the
-- promise leaves one answer.
use Rattle.std.proofs.Common.{◌≡◌, refl, sym, ap, ◌∙◌, List, [], ◌++◌, append_assoc, not, ⊎_elim, ℕ, suc, ◌≤◌, ◌<◌, arith, T, T_not, length, take, drop}
use Rattle.std.proofs.Common.{take-append-drop, take_all, take-take, length-take-le}
use lib.Dec.{not_T}
use Rattle.numbers.proofs.Lists.{below_or}
use Rattle.text.specs.Bytes.{Bytes, number_of, number_at}
use Rattle.dsf.specs.Dsf.{alike, any, all, fits, layout, pairs, orders, frequency, stated_length, channels, sample_count, blocks, data_bytes, needed, accepts}
use Rattle.dsf_upload.specs.Uploads.{Continued, Hopeless, ShortestHopeless, UploadPromise}
use Rattle.dsf_upload.specs.Deciding.{head_hopeful, hopeful}
use Rattle.dsf_upload.specs.Theorems.{Decides, OneAnswer}
use Rattle.dsf_upload.specs.declared.Upload.{Upload}
use Rattle.dsf_upload.specs.declared.Upload.TheVariants.{Accepted, Unfinished, GiveUp}
use Rattle.text.proofs.Bytes.{each_append, each_drop, each_take}
use Rattle.dsf_upload.proofs.Open.{opens, is_open}
use Rattle.dsf_upload.proofs.Hopeful.{begins, stated_same, longer}
use Rattle.dsf_upload.proofs.Completed.{continues}

-- ---- in both directions
pub decides : Decides
decides p b = (continues p b, λ c. begins p c.rest (each_append b c.are_bytes) c.accepted)

pub hopeless : (p : List ℕ) → Bytes p → T (not (hopeful p)) → Hopeless p
hopeless p b n c = T_not (hopeful p) n ((decides p b).1 c)

-- ---- beginnings of beginnings
continued_front : (p q : List ℕ) → Bytes q → Continued (p ++ q) → Continued p
continued_front p q b c = record { rest = q ++ c.rest; are_bytes = each_append b c.are_bytes; accepted = rw (append_assoc p q c.rest) at c.accepted }

shorter_continued : (m n : ℕ) (file : List ℕ) → m ≤ n → Bytes file → Continued (take n file) → Continued (take m file)
shorter_continued m n file h b c =
    let front = take n file in
    let e : front ≡ take m file ++ drop m front = sym (take-append-drop m front) ∙ ap (λ (l : List ℕ). l ++ drop m front) (take-take m n file h) in
    continued_front (take m file) (drop m front) (each_drop m (each_take n file b)) (rw e at c)

pub empty_hopeful : T (hopeful [])
unfolding hopeful head_hopeful all fits any alike layout pairs orders frequency sample_count needed data_bytes blocks channels number_at number_of
empty_hopeful = tt

module _ (file : List ℕ) (b : Bytes file) where
  pub shorter_hopeful : (m n : ℕ) → m ≤ n → T (hopeful (take n file)) → T (hopeful (take m file))
  shorter_hopeful m n h t =
      (decides (take m file) (each_take m file b)).1 (shorter_continued m n file h b (continues (take n file) (each_take n file b) t))

  pub shortest : (n : ℕ) → n < length file → T (hopeful (take n file)) → T (not (hopeful (take (suc n) file))) → ShortestHopeless file (suc n)
  shortest n l h k =
      record {
        within = l;
        hopeless = hopeless (take (suc n) file) (each_take (suc n) file b) k;
        shorter = λ m s. shorter_continued m n file (omega arith) b (continues (take n file) (each_take n file b) h);
      }

  -- a file with a hopeless beginning is not accepted
  pub not_accepted : {n : ℕ} → ShortestHopeless file n → T (not (accepts file))
  not_accepted {n} s =
      not_T (accepts file)
      (λ a. s.hopeless (record { rest = drop n file; are_bytes = each_drop n b; accepted = rw (take-append-drop n file) a }))

  -- past the header only the stated length counts
  module _ (n : ℕ) (h : 92 ≤ n) (l : n ≤ length file) where
    size : length (take n file) ≡ n
    size = length-take-le n file l

    whole : take n file ++ drop n file ≡ file
    whole = take-append-drop n file

    same_stated : stated_length (take n file) ≡ stated_length file
    same_stated = sym (stated_same (take n file) (drop n file) (omega (arith, size))) ∙ ap stated_length whole

    pub past_header : T (hopeful (take 92 file)) → n ≤ stated_length file → T (hopeful (take n file))
    past_header t s =
        let p = take 92 file in
        let q = drop 92 (take n file) in
        let e : p ++ q ≡ take n file = ap (λ (l : List ℕ). l ++ q) (sym (take-take 92 n file h)) ∙ take-append-drop 92 (take n file) in
        let m : length p ≡ 92 = length-take-le 92 file (omega arith) in
        let st : stated_length p ≡ stated_length file = sym (stated_same p (drop 92 file) (omega arith)) ∙ ap stated_length (take-append-drop 92 file) in
        rw e at (is_open (p ++ q) (longer p q (omega arith) (opens p t) (omega (arith, ap length e, size))))

    pub only_within : T (hopeful (take n file)) → n ≤ stated_length file
    only_within t = omega (arith, (opens (take n file) t).within (omega (arith, size)), size, same_stated)

-- ---- a file that is hopeless as a whole
module _ (file : List ℕ) (b : Bytes file) (k : T (not (hopeful file))) where
  pub inside : (m : ℕ) → T (hopeful (take m file)) → m < length file
  inside m h = ⊎_elim (λ l. l) (λ l. absurd (T_not (hopeful file) k (rw (take_all m file l) at h))) (below_or m (length file))

  -- where the whole header is hopeful, the stated length is the last
  pub past_gives_up : T (hopeful (take 92 file)) → ShortestHopeless file (suc (stated_length file))
  past_gives_up h =
      let long = inside 92 h in
      let n = stated_length file in
      let header-within : 92 ≤ n = only_within file b 92 (omega arith) (omega arith) h in
      ⊎_elim
      (λ (s : n < length file).
      shortest file b n s (past_header file b n header-within (omega arith) h (omega arith)) (not_T (hopeful (take (suc n) file)) (λ t. omega (arith, only_within file b (suc n) (omega arith) s t))))
      (λ s.
      let all = take_all (length file) file (omega arith) in
      let header-there : 92 ≤ length file = omega arith in
      let all_there : length file ≤ length file = omega arith in
      let t : T (hopeful (take (length file) file)) = past_header file b (length file) header-there all_there h s in
      absurd (T_not (hopeful file) k (rw all at t)))
      (below_or n (length file))

-- ---- the promise leaves one answer
module _ (file : List ℕ) (b : Bytes file) where
  not_both : {X : Type 0} {n : ℕ} → Continued file → ShortestHopeless file n → X
  not_both {n = n} c s = absurd (s.hopeless (continued_front (take n file) (drop n file) (each_drop n b) (rw (take-append-drop n file) c)))

  same_turn : (m n : ℕ) → ShortestHopeless file m → ShortestHopeless file n → m ≡ n
  same_turn m n s t =
      ⊎_elim (λ l. absurd (s.hopeless (t.shorter m l)))
      (λ k. ⊎_elim (λ l. absurd (t.hopeless (s.shorter n l))) (λ l. omega arith) (below_or n m))
      (below_or m n)

  one_of_two : (x y : Upload) → UploadPromise file x → UploadPromise file y → x ≡ y
  one_of_two Accepted Accepted p q = refl
  one_of_two Accepted Unfinished p q = absurd (T_not (accepts file) q.0 p)
  one_of_two Accepted (GiveUp n) p q = absurd (T_not (accepts file) q.0 p)
  one_of_two Unfinished Accepted p q = absurd (T_not (accepts file) p.0 q)
  one_of_two Unfinished Unfinished p q = refl
  one_of_two Unfinished (GiveUp n) p q = not_both p.1 q.1
  one_of_two (GiveUp m) Accepted p q = absurd (T_not (accepts file) p.0 q)
  one_of_two (GiveUp m) Unfinished p q = not_both q.1 p.1
  one_of_two (GiveUp m) (GiveUp n) p q = ap GiveUp (same_turn m n p.1 q.1)

pub one_answer : OneAnswer
one_answer file b x y p q = one_of_two file b x y p q
