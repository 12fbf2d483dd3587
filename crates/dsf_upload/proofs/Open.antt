-- A hopeful beginning as facts, in both directions.
use Rattle.std.proofs.Common.{◌≡◌, List, Bool, true, false, not, ◌&&◌, ◌||◌, ℕ, ◌+◌, ◌%◌, ◌≤◌, ◌<◌, arith, T, eqb, ltb, leb, leb→le, le→leb, ltb→lt, nltb→le}
use Rattle.std.proofs.Common.{eqb→eq, length}
use Rattle.dsf.specs.Dsf.{fixed, layout, frequency, all, fits, stated_length, sample_count, needed}
use Rattle.text.specs.Bytes.{bytes}
use Rattle.dsf.proofs.Alike.{both, left, right, or_elim}
use Rattle.dsf.proofs.Accepted.{eq→eqb}
use Rattle.dsf_upload.specs.Deciding.{head_hopeful, hopeful}

pub record Open (p : List ℕ) : Type 0 where
  pub as_laid_out : T (all (fits p) layout)
  pub at_frequency : T (fits p frequency)
  pub sized : T (fits p (fixed 84 (bytes 8 (12 + needed p))))
  pub whole : sample_count p % 8 ≡ 0
  pub room : 20 ≤ length p → 92 + needed p ≤ stated_length p
  pub within : 20 ≤ length p → length p ≤ stated_length p

module _ (a b c d e f g : Bool) where
  abbrev hopes : Bool
  hopes = a && ((b && (c && true)) && (d && (e || f && g)))

  hopes_apart : T hopes → T a × T b × T c × T d × T (e || f && g)
  hopes_apart h =
      let m = b && (c && true) in
      let w = right a (m && (d && (e || f && g))) h in
      let u = left m (d && (e || f && g)) w in
      let v = right m (d && (e || f && g)) w in
      (left a (m && (d && (e || f && g))) h, left b (c && true) u, left c true (right b (c && true) u), left d (e || f && g) v, right d (e || f && g) v)

  hopes_together : T a → T b → T c → T d → T (e || f && g) → T hopes
  hopes_together ha hb hc hd he =
      both a ((b && (c && true)) && (d && (e || f && g))) ha (both (b && (c && true)) (d && (e || f && g)) (both b (c && true) hb (both c true hc tt)) (both d (e || f && g) hd he))

module _ (p : List ℕ) where
  pub opens : T (hopeful p) → Open p
  unfolding hopeful head_hopeful all
  opens h =
      let room = leb (92 + needed p) (stated_length p) in
      let within = leb (length p) (stated_length p) in
      let t = hopes_apart (all (fits p) layout) (fits p frequency) (fits p (fixed 84 (bytes 8 (12 + needed p)))) (eqb (sample_count p % 8) 0) (ltb (length p) 20) room within h in
      record {
        as_laid_out = t.0;
        at_frequency = t.1;
        sized = t.2;
        whole = eqb→eq _ _ t.3;
        room = λ l. or_elim (ltb (length p) 20) (room && within) t.4 (λ q. let s : length p < 20 = ltb→lt _ _ q in absurd (omega arith)) (λ q. leb→le _ _ (left room within q));
        within = λ l. or_elim (ltb (length p) 20) (room && within) t.4 (λ q. let s : length p < 20 = ltb→lt _ _ q in absurd (omega arith)) (λ q. leb→le _ _ (right room within q));
      }

  pub is_open : Open p → T (hopeful p)
  unfolding hopeful head_hopeful all
  is_open o =
      hopes_together (all (fits p) layout) (fits p frequency) (fits p (fixed 84 (bytes 8 (12 + needed p))))
      (eqb (sample_count p % 8) 0) (ltb (length p) 20) (leb (92 + needed p) (stated_length p)) (leb (length p) (stated_length p))
      o.as_laid_out o.at_frequency o.sized (eq→eqb _ _ o.whole) (late (ltb (length p) 20) (nltb→le _ _))
    where
      late : (b : Bool) → (T (not b) → 20 ≤ length p) → T (b || leb (92 + needed p) (stated_length p) && leb (length p) (stated_length p))
      late true f = tt
      late false f = both (leb (92 + needed p) (stated_length p)) (leb (length p) (stated_length p)) (le→leb _ _ (o.room (f tt))) (le→leb _ _ (o.within (f tt)))
