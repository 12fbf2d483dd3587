-- What a table's fields tell, one after the other.
use Rattle.std.proofs.Common.{◌≡◌, refl, sym, ap, ap₂, ◌∙◌, leb, arith, Bor, add-one, drop-cons, Option, Some, None, option_map, List, [], ◌∷◌, Bool, true}
use Rattle.std.proofs.Common.{false, cond, ◌&&◌, ◌||◌, ℕ, zero, suc, ◌+◌, ◌<◌, ◌≤◌, length, get_or, map, drop, leb-true}
use Rattle.std.proofs.Math.Seq.{take-length}
use Rattle.std.proofs.lemmas.List.{drop_all}
use Rattle.reference.proofs.Refusals.{and_left, and_right}
use Rattle.text.specs.Bytes.{number_of, number_at}
use Rattle.std.specs.List.{list_any}
use Rattle.dsf.specs.Dsf.{fixed, alike, any, all, fits}
use Rattle.dsf.proofs.Tests.{fits_fixed}
use Rattle.dsf.specs.Dsf as spec
use Rattle.dsf_why.specs.inner.Fields.{field_of}
use Rattle.dsf_why.specs.declared.table.Field.{Field}
use Rattle.dsf_why.specs.Why.{first_unfit, first_value}
use Rattle.dsf_why.specs.inner.Why.{readable, all_readable}

pub first_is : (vs : List (Bor (List ℕ))) (d : Bor (List ℕ)) → 1 ≤ length vs → (get_or vs 0 d).now ≡ get_or (map (λ v. v.now) vs) 0 []
first_is [] d m = absurd (omega arith)
first_is (v ∷ vs) d m = refl

pub whole_number : (v : List ℕ) → number_at v 0 (length v) ≡ number_of v
unfolding number_at
whole_number v = ap number_of (take-length v)

module _ (head : List ℕ) (fs : List Field) (k : ℕ) (d : Field) (m : k < length fs) where
  abbrev here : spec.Field
  here = field_of (get_or fs k d)

  next_field : first_unfit head (map field_of (drop k fs)) ≡ cond (fits head here) (first_unfit head (map field_of (drop (k + 1) fs))) (Some here)
  unfolding first_unfit
  next_field = rw (add-one, drop-cons fs k d m) refl

  pub found_here : fits head here ≡ false → first_unfit head (map field_of (drop k fs)) ≡ Some here
  found_here e = next_field ∙ rw e refl

  pub passed : fits head here ≡ true → first_unfit head (map field_of (drop k fs)) ≡ first_unfit head (map field_of (drop (k + 1) fs))
  passed e = next_field ∙ rw e refl

module _ (fs : List Field) (k : ℕ) (d : Field) (m : k < length fs) (e : all_readable (map field_of (drop k fs)) ≡ true) where
  both : (readable (field_of (get_or fs k d)) && all_readable (map field_of (drop (k + 1) fs))) ≡ true
  both = rw add-one (rw (drop-cons fs k d m) at e)

  pub readable_here : ((get_or fs k d).start ≤ 92) × (1 ≤ length (get_or fs k d).values.now) × (length (first_value (field_of (get_or fs k d))) ≤ 8)
  readable_here =
      let f = get_or fs k d in
      let r = and_left (readable (field_of f)) _ both in
      let s = and_right (leb f.start 92) _ r in (
        leb-true _ _ (and_left (leb f.start 92) _ r),
        length_same f.values.now (leb-true _ _ (and_left (leb 1 (length (field_of f).values)) _ s)),
        leb-true _ _ (and_right (leb 1 (length (field_of f).values)) _ s),
      )
    where
      length_same : (vs : List (Bor (List ℕ))) → 1 ≤ length (map (λ v. v.now) vs) → 1 ≤ length vs
      length_same [] l = l
      length_same (v ∷ vs) l = omega arith

later_readable : (fs : List Field) (k : ℕ) → all_readable (map field_of (drop k fs)) ≡ true → all_readable (map field_of (drop (suc k) fs)) ≡ true
later_readable [] zero e = e
later_readable [] (suc k) e = e
later_readable (f ∷ fs) zero e = and_right (readable (field_of f)) _ e
later_readable (f ∷ fs) (suc k) e = later_readable fs k e

pub readable_later : (fs : List Field) (k : ℕ) → all_readable (map field_of (drop k fs)) ≡ true → all_readable (map field_of (drop (k + 1) fs)) ≡ true
readable_later fs k e = rw add-one (later_readable fs k e)

pub none_left : (head : List ℕ) (fs : List Field) (k : ℕ) → length fs ≤ k → first_unfit head (map field_of (drop k fs)) ≡ None
unfolding first_unfit
none_left head fs k l = rw (drop_all k fs l) refl

-- where no field is wrong, all are right
pub all_right : (head : List ℕ) (fs : List spec.Field) → first_unfit head fs ≡ None → all (fits head) fs ≡ true
unfolding first_unfit all
all_right head [] e = refl
all_right head (f ∷ fs) e = by (fits head f) refl (all_right head fs)
  where
    by : (b : Bool) → fits head f ≡ b → (first_unfit head fs ≡ None → all (fits head) fs ≡ true) → (fits head f && all (fits head) fs) ≡ true
    by true h later = rw h (later (rw h at e))
    by false h later = let z : ◌≡◌ {A = Option spec.Field} (Some f) None = rw h at e in cc

pub none_of : {A B : Type 0} (f : A → B) (o : Option A) → option_map f o ≡ None → o ≡ None
none_of f None e = refl
none_of f (Some a) e = cc

-- the values of a field tried one by one, as the code has it and as the definition has it
pub any_held : (file : List ℕ) (start : ℕ) (vs : List (Bor (List ℕ))) → list_any (λ v. fits file (fixed start v.now)) vs ≡ any (alike (drop start file)) (map (λ v. v.now) vs)
unfolding any
any_held file start [] = refl
any_held file start (v ∷ vs) = ap₂ (λ (a b : Bool). a || b) (sym (fits_fixed file start v.now)) (any_held file start vs)
