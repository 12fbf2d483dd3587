-- After an accepted opening or change the lists stand for the API's converter. Proved in proofs/Converters.
use Rattle.std.specs.Prelude.{◌≡◌, true, length}
use Rattle.reference.specs.Settings.{converter_of}
use Rattle.c_converter.specs.Blocks.{CConverter, converter_lists, known_numbers, settings_of, held_converter, with_stored, with_changed, gain_floats}
use Rattle.c_calls.specs.Calls.{CWanted, new_converter}

-- known numbers that stand for a converter
pub record Stands (b : CConverter) (Is : Type 0) : Type 0 where
  pub known : known_numbers b.numbers ≡ true
  pub is : Is

-- what an accepted opening writes
abbrev pub OpenedStands : Type 0
OpenedStands =
    (b : CConverter) → length b.numbers ≡ 8 → known_numbers b.numbers ≡ true
    → let new = converter_lists (with_stored (converter_of (settings_of b)) b.numbers) b.gain b.taps in
    Stands new (held_converter new ≡ converter_of (settings_of b))

-- and an accepted change
abbrev pub ChangedStands : Type 0
ChangedStands =
    (b : CConverter) (w : CWanted) → length b.numbers ≡ 8 → known_numbers b.numbers ≡ true
    → let conv = new_converter b w in
    let new = converter_lists (with_changed conv b.numbers) (gain_floats conv.gain) b.taps in
    Stands new (held_converter new ≡ conv)
