-- The report of the frames, out of its turns and its end.
use Rattle.std.proofs.Common.{◌≡◌, sym, ap, subst, ◌∙◌, List, ◌++◌, append-nil, ℕ, ◌+◌, ◌*◌, ◌<◌, arith, length, length-append, Option, Some, None, IfSome}
use Rattle.std.specs.Io.KnownBytes.{Consumes, Appends, IsAtEnd}
use Rattle.reference.specs.Frames.{frame_length}
use Rattle.reference.specs.declared.Converter.{Converter}
use Rattle.level_input.proofs.Known.{appends_more}
use Rattle.level_frames.specs.Report.{ending, lines_of, text_by}
use Rattle.level_turns.specs.inner.Turns.{StreamTold}

module _ (conv : Converter) (frames clipped left : ℕ) (from from' held held' : Option (List ℕ)) (told : StreamTold conv frames clipped left from from' held held') where
  pub all_printed : (held'' : Option (List ℕ)) → left < frame_length conv.channels → Appends held' held'' (ending left frames clipped)
      → IfSome from (λ input. length input < 100000000000000 * frame_length conv.channels → Appends held held'' (text_by conv input (lines_of conv input)))
  all_printed held'' few w = go from from' told.read (told.end few)
    where
      go : (a b : Option (List ℕ)) → Consumes a b told.input → IsAtEnd b
          → IfSome a (λ input. length input < 100000000000000 * frame_length conv.channels → Appends held held'' (text_by conv input (lines_of conv input)))
      go None b r e = tt
      go (Some xs) None r e = absurd r
      go (Some xs) (Some ys) r e = λ short.
          let same : told.input ≡ xs = sym (append-nil told.input) ∙ ap (λ z. told.input ++ z) (sym e) ∙ sym r in
          subst (Appends held held'') (told.whole few ∙ ap (λ z. text_by conv z (lines_of conv z)) same)
          (appends_more held held' held'' told.text (ending left frames clipped) told.wrote w)

  pub too_long : (text : List ℕ → List ℕ) → (left < frame_length conv.channels → ⊥)
      → IfSome from (λ input. length input < 100000000000000 * frame_length conv.channels → Appends held held' (text input))
  too_long text not_few = go from from' told.read
    where
      go : (a b : Option (List ℕ)) → Consumes a b told.input → IfSome a (λ input. length input < 100000000000000 * frame_length conv.channels → Appends held held' (text input))
      go None b r = tt
      go (Some xs) None r = absurd r
      go (Some xs) (Some ys) r = λ short.
          let all : left ≡ frame_length conv.channels = omega (arith, not_few, told.few) in
          let long : length told.input ≡ 100000000000000 * frame_length conv.channels + left = told.long ∙ ap (λ n. n * frame_length conv.channels + left) (told.many all) in
          absurd (omega (arith, short, long, ap length r ∙ length-append told.input ys))
