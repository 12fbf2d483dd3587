-- An album that is opened: what its tracks are.
use Rattle.std.proofs.Common.{◌≡◌, refl, sym, ap, subst, ◌∙◌, true≢false, List, [], ◌∷◌, ◌++◌, ℕ, ◌+◌, ◌-◌, ◌≤◌, ◌<◌, min, add_assoc, add-zero, arith, eqb-true}
use Rattle.std.proofs.Common.{ltb-false, T, eqb, length, drop, length-drop, drop-drop}
use mathlib.Core.List.{flat_map}
use borrow.Author.Tests.{not-false}
use Rattle.numbers.specs.Lists.{Each}
use Rattle.reference.specs.Refusals.{decide, accepted, opening_places, held_places}
use Rattle.reference.specs.Settings.{converter_of}
use Rattle.reference.specs.declared.Settings.{Settings}
use Rattle.reference.proofs.Refusals.{decide_first, decide_skip, pass, some_channel, few_channels}
use Rattle.reference.proofs.Opening.{held_as_opened}
use Rattle.text.specs.Bytes.{number_of, number_at, bytes}
use Rattle.text.proofs.Bytes.{number_bytes}
use Rattle.dsf.specs.Dsf.{pair, pairs, layout, alike, fits, channel_type, channels}
use Rattle.dsf.specs.Reading.{header_places}
use Rattle.dsf.proofs.Alike.{T_of, alike_nil, both, left, right, alike_after, alike_take, any_elim, all_each}
use Rattle.dsf.proofs.Accepted.{head_sound}
use Rattle.tracks.specs.Tracks.{Head, head_length, all_length, frames_of_bytes, tracks_frames, tracks_channels, tracks_type, settings_for}
use Rattle.tracks.specs.Tracks.{tracks_converter, too_long, first_places, next_places, rest_places, tracks_places, open_places}

-- ---- a channel type has its channels

alike_front : (l v w : List ℕ) → T (alike l (v ++ w)) → T (alike l v)
unfolding alike
alike_front l [] w h = T_of (alike_nil l)
alike_front [] (y ∷ v) w h = tt
alike_front (x ∷ l) (y ∷ v) w h = both (eqb x y) (alike l v) (left (eqb x y) (alike l (v ++ w)) h) (alike_front l v w (right (eqb x y) (alike l (v ++ w)) h))

abbrev channels_for : ℕ → ℕ
channels_for type = min type 4 + (type - 5)

module _ (h : Head) (taken : decide (header_places h.bytes h.long) ≡ accepted) where
  enough : 92 ≤ length h.bytes
  unfolding header_places
  enough = ltb-false (length h.bytes) 92 (pass _ _ taken).0

  number_read : (at n : ℕ) → n < 256 → at + 4 ≤ 92 → T (alike (drop at h.bytes) (bytes 4 n)) → number_at h.bytes at 4 ≡ n
  unfolding number_at bytes
  number_read at n l r w = ap number_of (alike_take (drop at h.bytes) (bytes 4 n) (omega (arith, enough, length-drop at h.bytes)) w) ∙ number_bytes 4 n (omega arith)

  -- what holds of each type with its channels holds of these
  module _ (P : ℕ → ℕ → Type 0) where
    by_pair : (t c : ℕ) → t < 256 → c < 256 → P t c → T (alike (drop 48 h.bytes) (pair t c)) → P (channel_type h.bytes) (channels h.bytes)
    unfolding channels channel_type bytes
    by_pair t c small few p a =
        let types = number_read 48 t small (omega arith) (alike_front (drop 48 h.bytes) (bytes 4 t) (bytes 4 c) a) in
        let told = number_read 52 c few (omega arith) (rw (drop-drop 4 48 h.bytes) at (alike_after (drop 48 h.bytes) (bytes 4 t) (bytes 4 c) a)) in
        rw (types, told) p

    pub with_pair : P 1 1 → P 2 2 → P 3 3 → P 4 4 → P 5 4 → P 6 5 → P 7 6 → P (channel_type h.bytes) (channels h.bytes)
    unfolding layout pairs fits
    with_pair one two three four five six seven =
        any_elim (alike (drop 48 h.bytes)) (pair 1 1 ∷ pair 2 2 ∷ pair 3 3 ∷ pair 4 4 ∷ pair 5 4 ∷ pair 6 5
        ∷ pair 7 6 ∷ []) (all_each (fits h.bytes) layout (head_sound h.bytes h.long taken).as_laid_out).1.1.1.1.1.1.0 (
          by_pair 1 1 (omega arith) (omega arith) one,
          (
            by_pair 2 2 (omega arith) (omega arith) two,
            (
              by_pair 3 3 (omega arith) (omega arith) three,
              (
                by_pair 4 4 (omega arith) (omega arith) four,
                (
                  by_pair 5 4 (omega arith) (omega arith) five,
                  (
                    by_pair 6 5 (omega arith) (omega arith) six,
                    (by_pair 7 6 (omega arith) (omega arith) seven, tt),
                  ),
                ),
              ),
            ),
          ),
        )

  pub type_has : channels h.bytes ≡ channels_for (channel_type h.bytes)
  type_has = with_pair (λ t c. c ≡ channels_for t) (omega arith) (omega arith) (omega arith) (omega arith) (omega arith) (omega arith) (omega arith)

all_alike : (type : ℕ) (hs : List Head) → Each (λ h. decide (header_places h.bytes h.long) ≡ accepted) hs → Each (λ h. channel_type h.bytes ≡ type) hs
    → Each (λ h. channels h.bytes ≡ channels_for type) hs
all_alike type [] e d = tt
all_alike type (h ∷ hs) e d = (type_has h e.0 ∙ ap channels_for d.0, all_alike type hs e.1 d.1)

-- ---- what an album that is opened is

pub record Opened (hs : List Head) (s : Settings) : Type 0 where
  pub taken : Each (λ h. decide (header_places h.bytes h.long) ≡ accepted) hs
  pub types : Each (λ h. channel_type h.bytes ≡ tracks_type hs) hs
  pub alike : Each (λ h. channels h.bytes ≡ tracks_channels hs) hs
  pub opening : decide (opening_places (settings_for s (tracks_channels hs))) ≡ accepted
  pub few : tracks_frames hs ≤ 540000

record Rest (type before : ℕ) (hs : List Head) : Type 0 where
  taken : Each (λ h. decide (header_places h.bytes h.long) ≡ accepted) hs
  types : Each (λ h. channel_type h.bytes ≡ type) hs
  few : frames_of_bytes before ≤ 540000 → frames_of_bytes (before + all_length hs) ≤ 540000

rest : (type before : ℕ) (hs : List Head) → decide (flat_map (λ p. p) (rest_places type before hs)) ≡ accepted → Rest type before hs
unfolding flat_map rest_places next_places all_length
rest type before [] e = record { taken = tt; types = tt; few = λ h. rw (add-zero before) h }
rest type before (h ∷ hs) e =
    let one = decide_first (next_places type (before + head_length h) h) _ e in
    let more = rest type (before + head_length h) hs (sym (decide_skip (next_places type (before + head_length h) h) _ one) ∙ e) in
    let head = decide_first (header_places h.bytes h.long) _ one in
    let later = sym (decide_skip (header_places h.bytes h.long) _ head) ∙ one in
    let same = eqb-true (channel_type h.bytes) type (not-false _ (pass _ _ later).0) in
    let fits = ltb-false 540000 (frames_of_bytes (before + head_length h)) (pass _ _ (pass _ _ later).1).0 in
    record { taken = (head, more.taken); types = (same, more.types); few = λ b. rw (← add_assoc before (head_length h) (all_length hs)) (more.few fits) }

no_channels : (s : Settings) → decide (opening_places (settings_for s 0)) ≡ accepted → ⊥
unfolding opening_places
no_channels s e = absurd (true≢false (pass _ _ e).0)

module _ (h : Head) (hs : List Head) (s : Settings) (one : decide (first_places h s) ≡ accepted) where
  head : decide (header_places h.bytes h.long) ≡ accepted
  unfolding first_places
  head = decide_first (header_places h.bytes h.long) _ one

  settings : decide (opening_places (settings_for s (channels h.bytes)) ++ (too_long (head_length h) ∷ [])) ≡ accepted
  unfolding first_places
  settings = sym (decide_skip (header_places h.bytes h.long) _ head) ∙ one

  opening : decide (opening_places (settings_for s (channels h.bytes))) ≡ accepted
  opening = decide_first (opening_places (settings_for s (channels h.bytes))) _ settings

  first_few : frames_of_bytes (head_length h) ≤ 540000
  first_few = ltb-false 540000 (frames_of_bytes (head_length h)) (pass _ _ (sym (decide_skip (opening_places (settings_for s (channels h.bytes))) _ opening) ∙ settings)).0

  module _ (more : Rest (channel_type h.bytes) (head_length h) hs) where
    all_taken : Each (λ t. decide (header_places t.bytes t.long) ≡ accepted) (h ∷ hs)
    all_taken = (head, more.taken)

    all_types : Each (λ t. channel_type t.bytes ≡ channel_type h.bytes) (h ∷ hs)
    all_types = (refl, more.types)

    same : Each (λ t. channels t.bytes ≡ channels h.bytes) (h ∷ hs)
    same = subst (λ (c : ℕ). Each (λ t. channels t.bytes ≡ c) (h ∷ hs)) (sym (type_has h head)) (all_alike (channel_type h.bytes) (h ∷ hs) all_taken all_types)

    few : tracks_frames (h ∷ hs) ≤ 540000
    unfolding tracks_frames all_length
    few = more.few first_few

    opened_one : Opened (h ∷ hs) s
    unfolding tracks_channels tracks_type
    opened_one = record { taken = all_taken; types = all_types; alike = same; opening = opening; few = few }

pub is_opened : (hs : List Head) (s : Settings) → decide (open_places hs s) ≡ accepted → Opened hs s
unfolding open_places tracks_places flat_map
is_opened [] s e = absurd (no_channels s (decide_first (opening_places (settings_for s 0)) [] e))
is_opened (h ∷ hs) s e =
    let one = decide_first (first_places h s) _ e in
    opened_one h hs s one (rest (channel_type h.bytes) (head_length h) hs (sym (decide_skip (first_places h s) _ one) ∙ e))

module _ (hs : List Head) (s : Settings) (o : Opened hs s) where
  pub opens : decide (held_places (tracks_converter s hs)) ≡ accepted
  opens = held_as_opened (settings_for s (tracks_channels hs)) ∙ o.opening

  pub some : 0 < tracks_channels hs
  unfolding converter_of
  some = some_channel (tracks_converter s hs) opens

  pub six_channels : tracks_channels hs ≤ 6
  unfolding converter_of
  six_channels = few_channels (tracks_converter s hs) opens
