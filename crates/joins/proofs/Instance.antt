-- What is asked of a list of calls can be met: for every accepted converter and any two frames, a `convert` of the
-- first with the second as its neighbour, a refused call, and a `convert_run` of the second with the first as its
-- neighbour join to the run of both.
use Rattle.std.proofs.Common.{◌≡◌, ap, sym, ◌∙◌, List, [], ◌∷◌, ◌++◌, append_assoc, append-nil, true, false, not, ℕ, ◌+◌, ◌*◌, ◌%◌, ◌<◌, mul-le-mul, arith}
use Rattle.std.proofs.Common.{eq-eqb, ne_eqb, eqb, ltb, lit<, ℤ, pos, length, take, replicate, length-append, take_at, drop_at, Ok, Err}
use mathlib.Core.List.{flat_map}
use native.Mathlib.Nat.{div-eq_of_eq-mul_left, mod_self}
use lib.Ieee.{of_int, of_bits, to_bits, mul, div, add, lt, le}
use lib.ListN.{length-replicate}
use Rattle.numbers.specs.Lists.{Each}
use Rattle.reference.specs.Taps.{F40}
use Rattle.reference.specs.Stages.{taps_of, reach}
use Rattle.reference.specs.Frames.{Run, run, idle, frame_length, frame_count, frame, neighbour, sequence, channel_byte}
use Rattle.reference.specs.Scaling.{LN_10, magnitude, exponent, series, squared, db_to_linear, allowed, right_gain}
use Rattle.reference.specs.Settings.{built_in, filter_of, converter_of, true_numbers}
use Rattle.reference.specs.Figures.{mono}
use Rattle.reference.specs.Output.{samples_per_frame, channel_samples, all_samples, samples, stats, s24le}
use Rattle.reference.specs.Refusals.{rack, number, accepted, refused, Place, decide, is_accepted, unsupported, filter_places}
use Rattle.reference.specs.Refusals.{opening_places, held_places, input_places, run_length, one_long, if_present}
use Rattle.reference.specs.Refusals.{lent_length, byte_lengths, run_lengths, convert_places, convert_run_places}
use Rattle.reference.specs.Promises.{stats_told, if_lent}
use Rattle.reference.specs.declared.Converter.{Converter}
use Rattle.reference.specs.declared.PcmError.TheVariants as error
use Rattle.reference.proofs.Frames.{some_samples}
use Rattle.reference.proofs.Filters.{built_in_passes}
use Rattle.reference.proofs.Refusals.{at_first, at_next, at_end, decide_skip}
use Rattle.reference.proofs.Promises.{exit_accepted, exit_refused}
use Rattle.joins.specs.Joins.{Call, convert, convert_run, ConvertCall, ConvertRunCall, right_lengths, keep, pieces, SameBytes, AllAgree, JoinTo}

-- places of which none holds
passes : (ps : List Place) → Each (λ p. p.holds ≡ false) ps → decide ps ≡ accepted
passes [] h = at_end
passes (p ∷ ps) h = at_next p ps h.0 ∙ passes ps h.1

not_same : (m n : ℕ) → m ≡ n → not (eqb m n) ≡ false
not_same m n e = rw (eq-eqb m n e)

module _ (conv : Converter) (opens : decide (held_places conv) ≡ accepted) (some : 0 < conv.channels)
    (A B : List ℕ) (one : length A ≡ frame_length conv.channels) (two : length B ≡ frame_length conv.channels) where
  abbrev ch : ℕ
  ch = conv.channels

  -- the two pieces, and the run of both
  first : Run
  first = run false [] A true B

  second : Run
  second = run true A B false []

  pub both : Run
  both = run false [] (A ++ B) false []

  one_count : (F : List ℕ) → length F ≡ frame_length ch → frame_count ch F ≡ 1
  unfolding frame_count
  one_count F e = div-eq_of_eq-mul_left (omega arith) (omega arith)

  whole : (F : List ℕ) → length F ≡ frame_length ch → length F % frame_length ch ≡ 0
  whole F e = rw e (mod_self (frame_length ch))

  few : (F : List ℕ) → length F ≡ frame_length ch → ltb 540000 (frame_count ch F) ≡ false
  few F e = rw (one_count F e)

  -- ---- `convert` of the first frame

  -- any list of the right length, and of a wrong one
  room : List ℕ
  room = replicate (3 * all_samples conv first) 0

  first_lengths : decide (byte_lengths rack conv first room false []) ≡ accepted
  unfolding byte_lengths input_places run_length if_present one_long lent_length first room
  first_lengths =
      passes _ (not_same _ 0 (whole A one), (few A one, (not_same (length B) (frame_length ch) two, (not_same _ _ (length-replicate (3 * all_samples conv first) 0), tt))))

  first_fits : decide (convert_places rack conv first room false []) ≡ accepted
  unfolding convert_places
  first_fits = decide_skip (held_places conv) _ opens ∙ first_lengths

  first_call : ConvertCall conv
  unfolding if_lent stats_told
  first_call = record {
    whose = rack;
    run = first;
    lent = false;
    out = room;
    counts = [];
    out' = s24le (samples conv first);
    counts' = [];
    answer = Ok (stats conv first);
    promise = record {
      answered = record { decided = sym first_fits; counted = sym (exit_accepted _ _ _ first_fits) };
      written = sym (exit_accepted _ _ _ first_fits);
      per_frame = sym (exit_accepted _ _ _ first_fits);
    };
  }

  -- ---- a call with no room for the samples

  some_room : 0 ≡ 3 * all_samples conv first → ⊥
  unfolding all_samples channel_samples first
  some_room e = omega (arith, ap (λ n. n * samples_per_frame conv.rate * ch) (one_count A one), mul-le-mul (some_samples conv.rate) some)

  short_lengths : decide (byte_lengths rack conv first [] false []) ≡ refused 7 (number 0 ∷ number (3 * all_samples conv first) ∷ [])
  unfolding byte_lengths input_places run_length if_present one_long lent_length first
  short_lengths =
      at_next _ _ (not_same _ 0 (whole A one)) ∙ at_next _ _ (few A one) ∙ at_next _ _ (not_same (length B) (frame_length ch) two)
      ∙ at_first _ _ (rw (ne_eqb 0 (3 * all_samples conv first) some_room))

  short_refused : decide (convert_places rack conv first [] false []) ≡ refused 7 (number 0 ∷ number (3 * all_samples conv first) ∷ [])
  unfolding convert_places
  short_refused = decide_skip (held_places conv) _ opens ∙ short_lengths

  is_refused : is_accepted (decide (convert_places rack conv first [] false [])) ≡ false
  unfolding is_accepted
  is_refused = ap is_accepted short_refused

  short_call : ConvertCall conv
  unfolding stats_told
  short_call = record {
    whose = rack;
    run = first;
    lent = false;
    out = [];
    counts = [];
    out' = [];
    counts' = [];
    answer = Err (error.OutputBytes 0 (3 * all_samples conv first));
    promise = record {
      answered = record { decided = sym short_refused; counted = sym (exit_refused _ _ _ is_refused) };
      written = sym (exit_refused _ _ _ is_refused);
      per_frame = sym (exit_refused _ _ _ is_refused);
    };
  }

  -- ---- `convert_run` of the second frame

  numbers : List ℤ
  numbers = replicate (all_samples conv second) (pos 0)

  second_lengths : decide (run_lengths conv second numbers) ≡ accepted
  unfolding run_lengths input_places run_length if_present one_long lent_length second numbers
  second_lengths =
      passes _ (not_same _ 0 (whole B two), (few B two, (not_same (length A) (frame_length ch) one, (not_same _ _ (length-replicate (all_samples conv second) (pos 0)), tt))))

  second_fits : decide (convert_run_places conv second numbers) ≡ accepted
  unfolding convert_run_places
  second_fits = decide_skip (held_places conv) _ opens ∙ second_lengths

  second_call : ConvertRunCall conv
  unfolding stats_told
  second_call = record {
    run = second;
    out = numbers;
    out' = samples conv second;
    answer = Ok (stats conv second);
    promise = record {
      answered = record { decided = sym second_fits; counted = sym (exit_accepted _ _ _ second_fits) };
      written = sym (exit_accepted _ _ _ second_fits);
    };
  }

  -- ---- the three join

  pub calls : List (Call conv)
  calls = convert first_call ∷ convert short_call ∷ convert_run second_call ∷ []

  pieces_are : pieces calls ≡ first ∷ second ∷ []
  unfolding pieces keep calls right_lengths first_call short_call second_call is_accepted
  pieces_are = rw (first_lengths, short_lengths, second_lengths)

  silence : List ℕ
  silence = replicate (frame_length ch) idle

  frames_are : (X Y Z : List ℕ) (k : ℕ) → length X ≡ k * frame_length ch → length Y ≡ frame_length ch → frame ch (X ++ (Y ++ Z)) k ≡ Y
  unfolding frame
  frames_are X Y Z k e f = ap (take (frame_length ch)) (drop_at X (Y ++ Z) (k * frame_length ch) e) ∙ take_at Y Z (frame_length ch) f

  same : (start n : ℕ) (X Y : List ℕ) → X ≡ Y → SameBytes ch start n X Y
  same start n X Y e = record { same = λ c k l m. ap (λ z. channel_byte ch z c (start + k)) e }

  silent : length silence ≡ frame_length ch
  unfolding silence
  silent = length-replicate (frame_length ch) idle

  -- the sequence: silence, the two frames, silence
  sequence_is : sequence ch both ≡ silence ++ (A ++ (B ++ silence))
  unfolding sequence neighbour both silence
  sequence_is = ap (λ z. silence ++ z) (append_assoc A B silence)

  frame_0 : frame ch (sequence ch both) 0 ≡ silence
  frame_0 = ap (λ z. frame ch z 0) sequence_is ∙ frames_are [] silence (A ++ (B ++ silence)) 0 (omega arith) silent

  frame_1 : frame ch (sequence ch both) 1 ≡ A
  frame_1 = ap (λ z. frame ch z 1) sequence_is ∙ frames_are silence A (B ++ silence) 1 (omega (arith, silent)) one

  frame_2 : frame ch (sequence ch both) 2 ≡ B
  frame_2 =
      ap (λ z. frame ch z 2) (sequence_is ∙ sym (append_assoc silence A (B ++ silence)))
      ∙ frames_are (silence ++ A) B silence 2 (omega (arith, length-append silence A, silent)) two

  frame_3 : frame ch (sequence ch both) 3 ≡ silence
  frame_3 =
      ap (λ z. frame ch z 3)
      (sequence_is ∙ sym (append_assoc silence A (B ++ silence)) ∙ sym (append_assoc (silence ++ A) B silence) ∙ ap (λ z. (silence ++ A) ++ B ++ z) (sym (append-nil silence)))
      ∙ frames_are ((silence ++ A) ++ B) silence [] 3 (omega (arith, length-append (silence ++ A) B, length-append silence A, silent)) silent

  agree : AllAgree conv (sequence ch both) 0 (first ∷ second ∷ [])
  unfolding first second neighbour silence
  agree =
      rw (one_count A one, one_count B two) (
        record { last = same _ _ silence _ (sym frame_0); first = same _ _ B _ (sym frame_2) },
        (record { last = same _ _ A _ (sym frame_1); first = same _ _ silence _ (sym frame_3) }, tt),
      )

  pub joined : JoinTo both calls
  unfolding flat_map first second both
  joined = record { bytes = ap (flat_map (λ p. p.frames)) pieces_are ∙ ap (λ z. A ++ z) (append-nil B); neighbours = rw pieces_are agree }

-- ---- and there is such a converter: Standard 88,200, mono, 0 dB; with a frame of zeros and a frame of ones

pub mono_opens : decide (held_places mono) ≡ accepted
unfolding decide held_places opening_places filter_of mono converter_of true_numbers samples_per_frame reach taps_of built_in
    F40 unsupported right_gain allowed db_to_linear exponent magnitude series squared LN_10 of_int of_bits to_bits mul div add lt le
mono_opens = decide_skip (filter_places built_in) _ built_in_passes

pub some_mono : 0 < mono.channels
unfolding mono converter_of
some_mono = lit< tt

pub byte_frame : (b : ℕ) → length (replicate 4704 b) ≡ frame_length mono.channels
unfolding mono converter_of
byte_frame b = length-replicate 4704 b

pub cut_exists : JoinTo (both mono mono_opens some_mono (replicate 4704 0x00) (replicate 4704 0xff) (byte_frame 0x00) (byte_frame 0xff))
    (calls mono mono_opens some_mono (replicate 4704 0x00) (replicate 4704 0xff) (byte_frame 0x00) (byte_frame 0xff))
cut_exists = joined mono mono_opens some_mono (replicate 4704 0x00) (replicate 4704 0xff) (byte_frame 0x00) (byte_frame 0xff)
