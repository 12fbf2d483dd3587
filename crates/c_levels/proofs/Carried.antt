-- What is in progress, told by a call and read by the next one.
use Rattle.std.proofs.Common.{◌≡◌, ℕ, ◌+◌, ◌*◌, ◌/◌, ◌%◌, ◌<◌, true, ltb, List, length, get_or, refl, ap, sym, ◌∙◌, zero-add, zero-mul, arith, Some, None}
use Rattle.std.proofs.Common.{replicate}
use lib.ListN.{get_or-replicate}
use Rattle.numbers.proofs.Lists.{get_d_tabulate, is_tabulate}
use Rattle.reference.specs.Output.{samples_per_frame, sample}
use Rattle.overs.specs.declared.End.TheVariants.{High, Low}
use Rattle.overs.specs.Overs.{Progress, none}
use Rattle.overs_joins.proofs.Signal.{starts}
use Rattle.levels.specs.Levels.{whole_input}
use Rattle.codes.proofs.Calls.{both_hold}
use Rattle.c_studio.specs.Progress.{progress_of, end_number, standing_length}
use Rattle.c_levels.specs.Standings.{known_standings, held_standings, standing_number, standing_numbers}
use Rattle.c_levels.specs.Theorems.{Begins, ReadBack}

same : (p : Progress) → progress_of (end_number p) (standing_length p) ≡ p
unfolding progress_of
same None = refl
same (Some s) = at s.end refl
  where
    at : (e : _) → s.end ≡ e → progress_of (end_number (Some s)) (standing_length (Some s)) ≡ Some s
    at High h = rw h refl
    at Low h = rw h refl

known : (p : Progress) → ltb (end_number p) 3 ≡ true
known None = refl
known (Some s) = at s.end
  where
    at : (e : _) → ltb (Rattle.c_studio.specs.Progress.which e) 3 ≡ true
    at High = refl
    at Low = refl

module _ (states : List Progress) where
  abbrev told : List ℕ
  told = standing_numbers states

  -- number k of channel c
  number_at : (c k n : ℕ) → c < 6 → k < 2 → n ≡ 2 * c + k → get_or told n 0 ≡ standing_number (get_or states c none) k
  unfolding standing_numbers
  number_at c k n l m e =
      let q : (0 + n) / 2 ≡ c = omega arith in
      let r : (0 + n) % 2 ≡ k = omega arith in
      get_d_tabulate _ 0 12 n 0 (omega arith) ∙ rw (q, r) refl

  end_at : (c n : ℕ) → c < 6 → n ≡ 2 * c → get_or told n 0 ≡ end_number (get_or states c none)
  end_at c n l e = number_at c 0 n l (omega arith) (omega arith)

  known_at : (c n : ℕ) → c < 6 → n ≡ 2 * c → ltb (get_or told n 0) 3 ≡ true
  known_at c n l e = ap (λ x. ltb x 3) (end_at c n l e) ∙ known (get_or states c none)

  all_known : known_standings told ≡ true
  all_known =
      both_hold _ _ (known_at 0 0 (omega arith) (omega arith))
      (both_hold _ _ (known_at 1 2 (omega arith) (omega arith))
      (both_hold _ _ (known_at 2 4 (omega arith) (omega arith))
      (both_hold _ _ (known_at 3 6 (omega arith) (omega arith))
      (both_hold _ _ (known_at 4 8 (omega arith) (omega arith)) (known_at 5 10 (omega arith) (omega arith))))))

  all_held : length states ≡ 6 → held_standings told ≡ states
  unfolding held_standings
  all_held e =
      sym (is_tabulate _ 0 6 none states e (λ i l.
      rw (zero-add i) (sym (ap (λ x. progress_of x (get_or told (2 * i + 1) 0)) (end_at i (2 * i) l refl)
      ∙ ap (progress_of (end_number (get_or states i none))) (number_at i 1 (2 * i + 1) l (omega arith) refl) ∙ same (get_or states i none)))))

pub read_back : ReadBack
read_back states e = (all_known states, all_held states e)

pub begins : Begins
unfolding held_standings progress_of
begins conv input few =
    record {
      held = λ c l.
          let e : get_or (held_standings (replicate 12 0)) c none ≡ none = get_d_tabulate _ 0 6 c none (omega arith) ∙ rw (zero-add c, get_or-replicate {A = ℕ} 12 (2 * c) 0 0 (omega arith)) refl in
          e ∙ sym (rw (zero-mul (samples_per_frame conv.rate)) (starts (sample conv (whole_input conv.channels input) c)));
    }
