use Rattle.std.proofs.Common.{ℕ, [], ◌∷◌, ap, refl, ◌∙◌}
use Rattle.text.specs.Text.{text}
use Rattle.text.specs.Bytes.{bytes}
use Rattle.dsf.specs.Headers.{header_with}
use Rattle.text.proofs.Bytes.{eight_bytes}
use Rattle.dsf_write.proofs.Writing.{then, put_as, pair_is}
use Rattle.dsf_write.proofs.header.put_header.Goals as goal

pub returns : goal.returns
unfolding header_with text bytes
returns c =
    let n = c.args.channels in
    let pair = put_as (ap (λ (t : ℕ). t ∷ 0 ∷ 0 ∷ 0 ∷ n ∷ 0 ∷ 0 ∷ 0 ∷ []) c.kind_of.ensures ∙ pair_is n c.requires.0 c.requires.1) c.put-4.ensures in
    let stated = put_as (c.to_le_bytes.ensures ∙ eight_bytes _) c.put-2.ensures in
    let samples = put_as (c.to_le_bytes-2.ensures ∙ eight_bytes _) c.put-6.ensures in
    let size = put_as (c.to_le_bytes-3.ensures ∙ eight_bytes _) c.put-8.ensures in
    let front = then 0 48 refl (then 0 20 refl (then 0 12 refl c.put.ensures stated) c.put-3.ensures) pair in
    then 0 84 refl (then 0 72 refl (then 0 64 refl (then 0 56 refl front c.put-5.ensures) samples) c.put-7.ensures) size
