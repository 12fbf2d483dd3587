-- What a method of `Text` that prints promises.
use Rattle.std.specs.Prelude.{◌≡◌, List, ℕ, length}
use Rattle.text.specs.Text.{Printed}
use Rattle.text.specs.declared.putting.Text.{Text}

-- the same slice is lent on, as long as before, and the text is printed in it from the old place to the new one
pub record Prints (t : List ℕ) (before after : Text) : Type 0 where
  pub same_reference : after.out.ghost_name ≡ before.out.ghost_name
  pub same_length : length after.out.now ≡ length before.out.now
  pub printed : Printed t before.out.now before.at after.out.now after.at
