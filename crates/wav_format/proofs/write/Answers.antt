use Rattle.std.proofs.Common.{length, sym, ap, ◌∙◌, ◌++◌, List, ℕ, arith}
use Rattle.reference.specs.Codes.{hertz}
use Rattle.wav_header.specs.Header.{header}
use Rattle.wav_format.specs.Wav.{wav_file}
use Rattle.wav_header.proofs.ThreeParts.{length_header}
use Rattle.wav_format.proofs.Reading.{right_is}
use Rattle.wav_format.proofs.Writing.{whole, none_taken, wrong_output, writes}
use Rattle.wav_format.proofs.write.Goals as goal

pub returns-then-not-right_data : goal.returns-then-not-right_data
returns-then-not-right_data c = none_taken _ _ _ _ (sym c.right_data.ensures ∙ c.if-not-right_data.true)

pub returns-then-length-expected : goal.returns-then-length-expected
returns-then-length-expected c = wrong_output _ _ _ _ (sym c.right_data.ensures ∙ c.if-not-right_data.false) c.if-length-expected.true

pub put_header-requires : goal.put_header-requires
put_header-requires c =
    let a = c.args in
    let r = right_is a.rate a.channels (length a.bytes.now) (sym c.right_data.ensures ∙ c.if-not-right_data.false) in
    (r.few, r.told, omega arith)

pub returns : goal.returns
unfolding wav_file
returns c =
    let a = c.args in
    let h = header (hertz a.rate) a.channels (length a.bytes.now) in
    writes a.rate a.channels a.bytes.now a.out.now (sym c.right_data.ensures ∙ c.if-not-right_data.false) _ c.if-length-expected.false
    (whole h _ a.out.now _ (length_header (hertz a.rate) a.channels (length a.bytes.now)) c.put_header.ensures ∙ ap (λ (l : List ℕ). h ++ l) c.copy_from_slice.ensures.after)
