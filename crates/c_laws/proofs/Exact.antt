-- A call leaves nothing free: two answers to it are the same, and so is what they leave in each lent list.
use Rattle.std.proofs.Common.{◌≡◌, refl, sym, ◌∙◌, List, Bool, true, false, ℕ, Float}
use Rattle.reference.specs.Frames.{Run}
use Rattle.reference.specs.Refusals.{Decision}
use Rattle.reference.specs.declared.Converter.{Converter}
use Rattle.codes.specs.Told.{ToldWhole}
use Rattle.codes.specs.Calls.{CCall}
use Rattle.c_stats.specs.Conversions.{Results, ConversionDone}
use Rattle.wav_format.proofs.Theorems.{read_exact}
use Rattle.dsf_upload.proofs.Early.{one_answer}
use Rattle.dsf_upload.proofs.Beginnings.{seen}
use Rattle.c_laws.specs.Exact.{GainExact, OpenExact, ChangeExact, SamplesExact, BytesExact, PackLeaves, JoinExact, OversExact, SheetExact}
use Rattle.c_laws.specs.Exact.{TurnsExact, LevelsExact, LastLineExact, AlbumExact, PartLeaves, PieceExact, WritesLeave, FramesExact, StepExact}
use Rattle.c_laws.specs.Exact.{WrittenExact, WhyExact, WindowLeaves, UploadExact, WavReadExact, HeaderExact, WaveHeaderExact, UploadHeaderExact}

-- ---- what several lists hold
module _ {A B : Type 0} (m m' : A × B) where
  pair : m.0 ≡ m'.0 → m.1 ≡ m'.1 → m ≡ m'
  pair p q = λ i. (p i, q i)

module _ {A B C : Type 0} (m m' : A × B × C) where
  three : m.0 ≡ m'.0 → m.1 ≡ m'.1 → m.2 ≡ m'.2 → m ≡ m'
  three p q r = λ i. (p i, q i, r i)

module _ {A B C D : Type 0} (m m' : A × B × C × D) where
  four : m.0 ≡ m'.0 → m.1 ≡ m'.1 → m.2 ≡ m'.2 → m.3 ≡ m'.3 → m ≡ m'
  four p q r s = λ i. (p i, q i, r i, s i)

-- the answers are equal, and what R says holds, if both follow in either case of the call
call_exact : (u : Bool) {a a' : ℕ} {K K' D D' R : Type 0} → CCall u a K D → CCall u a' K' D' → (K → K' → R) → (D → D' → (a ≡ a') × R) → (a ≡ a') × R
call_exact false p q kept done = let x = p.unclear refl in let y = q.unclear refl in (x.0 ∙ sym y.0, kept x.1 y.1)
call_exact true p q kept done = done (p.done refl) (q.done refl)

module _ {d : Decision} {a a' : ℕ} where
  whole_exact : {n n' : List ℕ} {f f' : List Float} → ToldWhole d a n f → ToldWhole d a' n' f' → (a ≡ a') × ((n ≡ n') × (f ≡ f'))
  whole_exact p q = (p.told.number ∙ sym q.told.number, (p.told.numbers ∙ sym q.told.numbers, p.decibels ∙ sym q.decibels))

  conversion_exact : {conv : Converter} {r : Run} {old n n' : Results} → ConversionDone d conv r old n a → ConversionDone d conv r old n' a' → (a ≡ a') × (n ≡ n')
  conversion_exact p q =
      let t = whole_exact p.told q.told in
      let c = p.counted ∙ sym q.counted in
      (t.0, λ i. record { stats = c i; «data» = t.1.0 i; decibels = t.1.1 i })

-- ---- with a converter

pub gain_exact : GainExact
gain_exact db gain m m' a a' p q = (p.told.number ∙ sym q.told.number, pair m m' (p.written ∙ sym q.written) (p.told.decibels ∙ sym q.told.decibels))

pub open_exact : OpenExact
open_exact b old decibels m m' a a' p q =
    call_exact _ p q (λ x y. three m m' (x.0 ∙ sym y.0) (x.1 ∙ sym y.1) (x.2 ∙ sym y.2))
    (λ x y. let t = whole_exact x.told y.told in (t.0, three m m' (x.written ∙ sym y.written) t.1.0 t.1.1))

pub change_exact : ChangeExact
change_exact b w old decibels m m' a a' p q =
    call_exact _ p q (λ x y. four m m' (x.0 ∙ sym y.0) (x.1 ∙ sym y.1) (x.2 ∙ sym y.2) (x.3 ∙ sym y.3))
    (λ x y. let t = whole_exact x.told y.told in (t.0, four m m' (x.written ∙ sym y.written) (x.amplified ∙ sym y.amplified) t.1.0 t.1.1))

pub samples_exact : SamplesExact
samples_exact kind b i out old m m' a a' p q =
    call_exact _ p q (λ x y. pair m m' (x.0 ∙ sym y.0) (x.1 ∙ sym y.1))
    (λ x y. let t = conversion_exact x.done y.done in (t.0, pair m m' (x.written ∙ sym y.written) t.1))

pub bytes_exact : BytesExact
bytes_exact kind b i out counts old m m' a a' p q =
    call_exact _ p q (λ x y. three m m' (x.0 ∙ sym y.0) (x.1 ∙ sym y.1) (x.2 ∙ sym y.2))
    (λ x y. let t = conversion_exact x.done y.done in (t.0, three m m' (x.written ∙ sym y.written) (x.per_frame ∙ sym y.per_frame) t.1))

pub pack_leaves : PackLeaves
pack_leaves samples bytes m m' p q = p.written ∙ sym q.written

-- ---- of the studio

pub written_exact : WrittenExact
written_exact d whole l m m' a a' p q = (p.told.number ∙ sym q.told.number, pair m m' (p.written ∙ sym q.written) (p.told.numbers ∙ sym q.told.numbers))

pub join_exact : JoinExact
join_exact s t m m' a a' p q = call_exact _ p q (λ k l. k ∙ sym l) (λ k l. (k.0 ∙ sym l.0, k.1 ∙ sym l.1))

pub overs_exact : OversExact
overs_exact samples n c told m m' a a' p q = call_exact _ p q (λ k l. k ∙ sym l) (λ k l. (k.0 ∙ sym l.0, k.1 ∙ sym l.1))

pub sheet_exact : SheetExact
sheet_exact channels s out told m m' a a' p q =
    call_exact _ p q (λ k l. pair m m' (k.0 ∙ sym l.0) (k.1 ∙ sym l.1)) (λ k l. written_exact _ _ _ m m' a a' k l)

pub turns_exact : TurnsExact
turns_exact frames dues turn finishes late m m' a a' p q =
    call_exact _ p q (λ k l. pair m m' (k.0 ∙ sym l.0) (k.1 ∙ sym l.1))
    (λ k l. (k.number ∙ sym l.number, pair m m' (k.finished ∙ sym l.finished) (k.measured ∙ sym l.measured)))

-- ---- of the level report

pub levels_exact : LevelsExact
levels_exact b i number old m m' a a' p q =
    call_exact _ p q (λ k l. k ∙ sym l)
    (λ k l.
    let t = whole_exact k.told l.told in
    let s = k.standings ∙ sym l.standings in
    let e = k.sampled ∙ sym l.sampled in
    let x = k.lines ∙ sym l.lines in
    let c = k.counted ∙ sym l.counted in
    (t.0, λ i. record { standings = s i; samples = e i; lines = x i; told = c i; «data» = t.1.0 i; decibels = t.1.1 i }))

pub last_line_exact : LastLineExact
last_line_exact frames clips lines m m' a a' p q = (p.after ∙ sym q.after, p.written ∙ sym q.written)

-- ---- about an album

pub album_exact : AlbumExact
album_exact w old m m' a a' p q =
    call_exact _ p q (λ k l. k ∙ sym l)
    (λ k l.
    let t = whole_exact k.told l.told in
    let b = k.written ∙ sym l.written in
    let c = k.marked ∙ sym l.marked in
    let e = k.named ∙ sym l.named in
    (t.0, λ i. record { album = b i; marks = c i; track = e i; «data» = t.1.0 i; decibels = t.1.1 i }))

pub part_leaves : PartLeaves
part_leaves frames jobs j m m' p q = p ∙ sym q

pub piece_exact : PieceExact
piece_exact w i plan reads m m' a a' p q =
    call_exact _ p q (λ k l. pair m m' (k.0 ∙ sym l.0) (k.1 ∙ sym l.1))
    (λ k l. (k.number ∙ sym l.number, pair m m' (k.planned ∙ sym l.planned) (k.read ∙ sym l.read)))

pub writes_leave : WritesLeave
writes_leave marks place bytes out m m' p q = p ∙ sym q

pub frames_exact : FramesExact
frames_exact w first count windows scratch old decibels m m' a a' p q =
    call_exact _ p q (λ k l. three m m' (k.0 ∙ sym l.0) (k.1 ∙ sym l.1) (k.2 ∙ sym l.2))
    (λ k l. let t = whole_exact k.told l.told in (t.0, three m m' (k.gathered ∙ sym l.gathered) t.1.0 t.1.1))

pub step_exact : StepExact
step_exact w first count windows lists old m m' a a' p q =
    call_exact _ p q (λ k l. pair m m' (k.0 ∙ sym l.0) (k.1 ∙ sym l.1))
    (λ k l.
    let t = conversion_exact k.done l.done in
    let s = k.gathered ∙ sym l.gathered in
    let o = k.written ∙ sym l.written in
    (t.0, pair m m' (λ i. record { scratch = s i; out = o i }) t.1))

-- ---- about files

pub why_exact : WhyExact
why_exact head n m m' a a' p q = (p.0 ∙ sym q.0, p.1 ∙ sym q.1)

pub window_leaves : WindowLeaves
window_leaves channels samples f m m' p q = p ∙ sym q

pub upload_exact : UploadExact
upload_exact file bytes place m m' a a' p q =
    let e = one_answer file bytes p.made q.made p.promise q.promise in
    (rw (p.number, e) (sym q.number), rw (p.written, e) (sym q.written))

pub upload_header_exact : UploadHeaderExact
upload_header_exact head n place file bytes g m m' a a' p q =
    let h = seen file head n g in
    let e = one_answer file bytes p.made q.made (p.promise file bytes h) (q.promise file bytes h) in
    (rw (p.number, e) (sym q.number), rw (p.written, e) (sym q.written))

pub wav_read_exact : WavReadExact
wav_read_exact file told m m' a a' p q =
    let e = read_exact file p.made q.made p.promise q.promise in
    (rw (p.number, e) (sym q.number), rw (p.written, e) (sym q.written))

pub header_exact : HeaderExact
header_exact rate channels n out m m' a a' p q = (p.number ∙ sym q.number, p.written ∙ sym q.written)

pub wave_header_exact : WaveHeaderExact
wave_header_exact format rate channels type n out told m m' a a' p q =
    call_exact _ p q (λ k l. pair m m' (k.0 ∙ sym l.0) (k.1 ∙ sym l.1))
    (λ k l. (k.number ∙ sym l.number, pair m m' (k.written ∙ sym l.written) (k.lengths ∙ sym l.lengths)))
