-- What an accepted call has, and the promises of a call that is accepted or refused.
use Rattle.std.proofs.Common.{◌≡◌, refl, sym, ap, ◌∙◌, Ok, Err, List, [], ◌∷◌, ◌++◌, Bool, true, false, ℕ, ◌*◌, eqb-true, ℤ, length}
use borrow.Author.Tests.{not-false}
use Rattle.reference.specs.Frames.{Run, frame_count}
use Rattle.reference.specs.Output.{all_samples, samples, stats, s24le, frame_clips, per_frame_clips}
use Rattle.reference.specs.Refusals.{rack, accepted, error_decision, is_accepted, Place, decide, if_present, lent_length, held_places}
use Rattle.reference.specs.Refusals.{input_places, run_lengths, byte_lengths, convert_run_places, convert_frame_places, convert_places}
use Rattle.reference.specs.Promises.{stats_told, Answered, SamplesPromise, BytesPromise, if_lent}
use Rattle.reference.specs.Statistics.{no_stats}
use Rattle.reference.specs.declared.Converter.{Converter}
use Rattle.reference.specs.declared.ConvertStats.{ConvertStats}
use Rattle.reference.specs.declared.Limit.{Limit}
use Rattle.reference.specs.declared.PcmError.{PcmError}
use Rattle.reference.proofs.Refusals.{pass, decide_first, decide_skip, error_refuses}
use Rattle.reference.proofs.Promises.{exit_accepted, exit_refused}
use Rattle.reference.proofs.Limits.{rack_fits}
use Rattle.numbers.specs.Lists.{tabulate}
use Rattle.output.specs.inner.Fills.{items, byte_layout, parts_of}
use Rattle.output.proofs.Boxes.{written_items, written_bytes}
use Rattle.run_record.specs.inner.Calls.{AcceptedCall}

both : (ps qs : List Place) → decide (ps ++ qs) ≡ accepted → (decide ps ≡ accepted) × (decide qs ≡ accepted)
both ps qs e = let h = decide_first ps qs e in (h, sym (decide_skip ps qs h) ∙ e)

right_length : (refusal n expected : ℕ) (ps : List Place) → decide (lent_length refusal n expected ∷ ps) ≡ accepted → n ≡ expected
unfolding lent_length
right_length refusal n expected ps e = eqb-true _ _ (not-false _ (pass _ _ e).0)

module _ (conv : Converter) (r : Run) (out : List ℤ) where
  items_fit : decide (held_places conv) ≡ accepted → decide (run_lengths conv r out) ≡ accepted → AcceptedCall conv r × (length out ≡ all_samples conv r)
  unfolding run_lengths
  items_fit o e =
      let h = both (input_places rack conv r) _ e in
      (record { opens = o; fits = h.0 }, right_length 6 (length out) (all_samples conv r) [] h.1)

  pub run_accepted : accepted ≡ decide (convert_run_places conv r out) → AcceptedCall conv r × (length out ≡ all_samples conv r)
  unfolding convert_run_places
  run_accepted e = let h = both (held_places conv) _ (sym e) in items_fit h.0 h.1

  pub frame_accepted : accepted ≡ decide (convert_frame_places conv r out) → AcceptedCall conv r × (length out ≡ all_samples conv r)
  unfolding convert_frame_places
  frame_accepted e = let h = both (held_places conv) _ (sym e) in items_fit h.0 (pass _ _ h.1).1

module _ (whose : Limit) (conv : Converter) (r : Run) (out : List ℕ) where
  pub lent_accepted : (counts : List ℕ) → accepted ≡ decide (convert_places whose conv r out true counts)
      → AcceptedCall conv r × (length out ≡ 3 * all_samples conv r) × (length counts ≡ frame_count conv.channels r.frames)
  unfolding convert_places byte_lengths if_present
  lent_accepted counts e =
      let h = both (held_places conv) _ (sym e) in
      let k = both (input_places whose conv r) _ h.1 in
      (record { opens = h.0; fits = rack_fits whose conv r k.0 }, right_length 7 (length out) (3 * all_samples conv r) _ k.1, right_length 8 (length counts) _ [] (pass _ _ k.1).1)

  pub unlent_accepted : accepted ≡ decide (convert_places whose conv r out false []) → AcceptedCall conv r × (length out ≡ 3 * all_samples conv r)
  unfolding convert_places byte_lengths if_present
  unlent_accepted e =
      let h = both (held_places conv) _ (sym e) in
      let k = both (input_places whose conv r) _ h.1 in
      (record { opens = h.0; fits = rack_fits whose conv r k.0 }, right_length 7 (length out) (3 * all_samples conv r) _ k.1)

-- ---- the promises, of a call that is accepted and of one that is refused

module _ (places : List Place) (conv : Converter) (r : Run) where
  module _ (ok : accepted ≡ decide places) (told : ConvertStats) (is_stats : told ≡ stats conv r) where
    answered : Answered places conv r (Ok told)
    unfolding stats_told
    answered = record { decided = ok; counted = is_stats ∙ sym (exit_accepted (decide places) (stats conv r) no_stats (sym ok)) }

    pub samples_promise : (out out' : List ℤ) → out' ≡ parts_of items (samples conv r) → SamplesPromise places conv r out out' (Ok told)
    samples_promise out out' e = record { answered = answered; written = e ∙ written_items (samples conv r) ∙ sym (exit_accepted (decide places) (samples conv r) out (sym ok)) }

  module _ (e : PcmError) (no : error_decision e ≡ decide places) where
    down : is_accepted (decide places) ≡ false
    down = ap is_accepted (sym no) ∙ error_refuses e

    unanswered : Answered places conv r (Err e)
    unfolding stats_told
    unanswered = record { decided = no; counted = sym (exit_refused (decide places) (stats conv r) no_stats down) }

    pub samples_refused : (out : List ℤ) → SamplesPromise places conv r out out (Err e)
    samples_refused out = record { answered = unanswered; written = sym (exit_refused (decide places) (samples conv r) out down) }

module _ (whose : Limit) (conv : Converter) (r : Run) (out counts : List ℕ) where
  module _ (lent : Bool) (told : ConvertStats) (is_stats : told ≡ stats conv r) (ok : accepted ≡ decide (convert_places whose conv r out lent counts)) where
    bytes_promise : (out' counts' : List ℕ) → out' ≡ s24le (samples conv r) → counts' ≡ if_lent lent (per_frame_clips conv r) counts → BytesPromise whose conv r lent out counts out' counts' (Ok told)
    bytes_promise out' counts' w k =
        let places = convert_places whose conv r out lent counts in
        record {
          answered = answered places conv r ok told is_stats;
          written = w ∙ sym (exit_accepted (decide places) (s24le (samples conv r)) out (sym ok));
          per_frame = k ∙ sym (exit_accepted (decide places) (if_lent lent (per_frame_clips conv r) counts) counts (sym ok));
        }

  pub lent_promise : (told : ConvertStats) → told ≡ stats conv r → accepted
      ≡ decide (convert_places whose conv r out true counts) → (out' counts' : List ℕ) → out' ≡ parts_of byte_layout (samples conv r)
      → length counts ≡ frame_count conv.channels r.frames → counts' ≡ tabulate (frame_clips conv r) 0 (length counts) → BytesPromise whose conv r true out counts out' counts' (Ok told)
  unfolding if_lent per_frame_clips
  lent_promise told is_stats ok out' counts' w l k = bytes_promise true told is_stats ok out' counts' (w ∙ written_bytes (samples conv r)) (k ∙ ap (λ n. tabulate (frame_clips conv r) 0 n) l)

  bytes_refused : (lent : Bool) (e : PcmError) → error_decision e ≡ decide (convert_places whose conv r out lent counts) → BytesPromise whose conv r lent out counts out counts (Err e)
  bytes_refused lent e h =
      let places = convert_places whose conv r out lent counts in
      record {
        answered = unanswered places conv r e h;
        written = sym (exit_refused (decide places) (s24le (samples conv r)) out (down places conv r e h));
        per_frame = sym (exit_refused (decide places) (if_lent lent (per_frame_clips conv r) counts) counts (down places conv r e h));
      }

  pub lent_refused : (e : PcmError) → error_decision e ≡ decide (convert_places whose conv r out true counts) → BytesPromise whose conv r true out counts out counts (Err e)
  lent_refused e h = bytes_refused true e h

-- where no list is lent there are no counts
module _ (whose : Limit) (conv : Converter) (r : Run) (out : List ℕ) where
  pub unlent_promise : (told : ConvertStats) → told ≡ stats conv r → accepted ≡ decide (convert_places whose conv r out false []) → (out' : List ℕ) → out' ≡ parts_of byte_layout (samples conv r)
      → BytesPromise whose conv r false out [] out' [] (Ok told)
  unfolding if_lent
  unlent_promise told is_stats ok out' w = bytes_promise whose conv r out [] false told is_stats ok out' [] (w ∙ written_bytes (samples conv r)) refl

  pub unlent_refused : (e : PcmError) → error_decision e ≡ decide (convert_places whose conv r out false []) → BytesPromise whose conv r false out [] out [] (Err e)
  unlent_refused e h = bytes_refused whose conv r out [] false e h
