-- What the loop over a channel has counted: what the samples passed give from the state that it starts with.
use Rattle.std.proofs.Common.{◌≡◌, refl, sym, ap, ◌∙◌, List, [], ◌∷◌, ◌++◌, ℕ, suc, ◌+◌, ◌-◌, ◌≤◌, ◌<◌, arith, zero-add, ℤ}
use Rattle.numbers.specs.Lists.{tabulate}
use Rattle.numbers.proofs.Lists.{length_tabulate, tabulate_join}
use Rattle.overs.specs.declared.OverCount.{OverCount}
use Rattle.overs.specs.Overs.{Progress, none, step, overs_from, after}
use Rattle.channel_overs.specs.inner.Passed.{Passed}
use Rattle.overs.proofs.Laws.{at, overs_append, after_append, overs_more, after_more, overs_few}

-- what k samples give from a state
pub record SoFar (items : List ℤ) (n c k : ℕ) (p q : Progress) (count : ℕ) : Type 0 where
  pub state : q ≡ after p (tabulate (at items n c) 0 k)
  pub counted : count ≡ overs_from p (tabulate (at items n c) 0 k)

pub none_so_far : {items : List ℤ} {n c : ℕ} {p : Progress} → SoFar items n c 0 p p 0
unfolding tabulate after overs_from
none_so_far = record { state = refl; counted = refl }

-- samples passed over
module _ {items : List ℤ} {n c k e : ℕ} {p q : Progress} {count : ℕ} (s : SoFar items n c k p q count) (past : Passed (at items n c) q k e) (some : k < e) where
  joined : tabulate (at items n c) 0 e ≡ tabulate (at items n c) 0 k ++ tabulate (at items n c) k (e - k)
  joined =
      let size : e ≡ k + (e - k) = omega arith in
      ap (tabulate (at items n c) 0) size ∙ tabulate_join (at items n c) 0 k (e - k) ∙ rw zero-add

  pub passed_on : SoFar items n c e p none count
  passed_on = record {
    state = rw (joined, after_append p (tabulate (at items n c) 0 k) (tabulate (at items n c) k (e - k)), ← s.state) (sym (past.nothing some));
    counted =
        rw (joined, overs_append p (tabulate (at items n c) 0 k) (tabulate (at items n c) k (e - k)), ← s.state, past.no_overs) (omega (arith, s.counted));
  }

-- one sample more
module _ {items : List ℤ} {n c k : ℕ} {p q : Progress} {count : ℕ} {r : OverCount} (s : SoFar items n c k p q count) (stepped : r ≡ step q (at items n c k)) where
  is : r ≡ step (after p (tabulate (at items n c) 0 k)) (at items n c k)
  is = stepped ∙ rw s.state

  longer : tabulate (at items n c) 0 (k + 1) ≡ tabulate (at items n c) 0 k ++ (at items n c k ∷ [])
  unfolding tabulate
  longer =
      let e : k + 1 ≡ suc k = omega arith in
      rw (e, zero-add k)

  pub stepped_on : SoFar items n c (k + 1) p r.next (count + r.count)
  stepped_on = record {
    state = rw longer (ap (λ o. o.next) is ∙ sym (after_more p (tabulate (at items n c) 0 k) (at items n c k)));
    counted = rw longer (omega (arith, s.counted, ap (λ o. o.count) is, overs_more p (tabulate (at items n c) 0 k) (at items n c k)));
  }

  pub few : count + r.count ≤ k + 1
  few = omega (arith, stepped_on.counted, overs_few p (tabulate (at items n c) 0 (k + 1)), length_tabulate (at items n c) 0 (k + 1))
