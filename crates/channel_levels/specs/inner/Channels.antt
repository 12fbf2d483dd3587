-- What the level report tells of a channel, read off its clip count and a frame's items, and what is in progress before
-- it.
use Rattle.std.specs.Prelude.{ℕ, ◌+◌, ◌*◌, ◌/◌, List, length, get_or, ℤ, pos}
use Rattle.numbers.specs.Extremes.{lesser, greater, extreme}
use Rattle.overs.specs.Overs.{Progress, overs_of}
use Rattle.level_lines.specs.declared.Level.{Level}

unfoldable pub level_of : ℕ → List ℤ → ℕ → ℕ → Progress → Level
level_of clips items channels c p =
    let at : ℕ → ℤ = λ n. get_or items (n * channels + c) (pos 0) in
    record {
      clipped = clips;
      low = extreme lesser at 0 (length items / channels);
      high = extreme greater at 0 (length items / channels);
      over = (overs_of items channels c p).count;
    }
