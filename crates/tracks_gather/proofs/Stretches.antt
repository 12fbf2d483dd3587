-- What one track needs.
use Rattle.std.proofs.Common.{◌≡◌, refl, sym, ap, ◌∙◌, List, ℕ, ◌+◌, ◌-◌, ◌*◌, ◌/◌, ◌<◌, arith, length, take, drop, length-drop, get_or-drop, take_all}
use Rattle.dsf.specs.Dsf.{blocks, channels, bits_per_sample, sample_count}
use Rattle.dsf.specs.Reading.{file_header}
use Rattle.dsf.specs.declared.DsfHeader.{DsfHeader}
use Rattle.dsf_frames.specs.Reading.{window_data}
use Rattle.dsf_frames.specs.declared.FrameWindow.{FrameWindow}
use Rattle.tracks.specs.Tracks.{Head, head_length, head_at}
use Rattle.tracks.specs.Windows.{read_start, read_end, read_bytes, windowed_data}
use Rattle.tracks_put.specs.declared.Span.{Span}
use Rattle.tracks_put.specs.inner.Placing.{track_from, track_to, with_track, TrackArgs}
use Rattle.tracks_reads.specs.inner.Reading.{ReadArgs, read_from, read_to}
use Rattle.tracks_reads.proofs.Stretches.{some_start, some_end, start_is, end_is}
use Rattle.tracks_gather.specs.declared.Start.{Start}
use Rattle.tracks_gather.specs.inner.Gathering.{TakeArgs, TrackTaken}

-- ---- a window's data, out of the list of windows
pub window_is : (start p : ℕ) (w : List ℕ) → window_data (drop p w) start ≡ windowed_data start p w
window_is start p w = λ i j. get_or-drop p w (j - start) 0 i

-- ---- what `take` needs
module _ (heads lengths : List ℕ) (k : ℕ) (start : Start) (span : Span) (w : List ℕ) {room : ℕ} (t : TakeArgs heads lengths k start span (length w) room)
    (header : DsfHeader) (is : header ≡ file_header (head_at heads lengths k).bytes) (r : FrameWindow)
    (begins : r.start ≡ read_from header.channels (header.samples / 8) start.byte span) (ends : r.end ≡ read_to header.channels (header.samples / 8) start.byte span) where
  abbrev h : Head
  h = head_at heads lengths k

  abbrev n : ℕ
  n = channels h.bytes

  channels_are : header.channels ≡ n
  unfolding file_header
  channels_are = ap (λ (x : DsfHeader). x.channels) is

  samples_are : header.samples ≡ sample_count h.bytes
  unfolding file_header
  samples_are = ap (λ (x : DsfHeader). x.samples) is

  bits_are : header.bits_per_sample ≡ bits_per_sample h.bytes
  unfolding file_header
  bits_are = ap (λ (x : DsfHeader). x.bits_per_sample) is

  pub length_is : header.samples / 8 ≡ head_length h
  unfolding head_length
  length_is = ap (λ (x : ℕ). x / 8) samples_are

  start_read : r.start ≡ read_start n h start.byte span.from span.to
  start_read = begins ∙ rw (channels_are, length_is) (start_is n h start.byte span)

  end_read : r.end ≡ read_end n h start.byte span.from span.to
  end_read = ends ∙ rw (channels_are, length_is) (end_is n h start.byte span)

  pub read_args : ReadArgs header.channels span
  read_args = record { six = rw channels_are t.six; most = t.most }

  pub window_length : r.end - r.start ≡ read_bytes n h start.byte span.from span.to
  window_length = rw (start_read, end_read) refl

  pub put_args : TrackArgs header.channels header.samples start.byte span r.start (length (drop start.window w)) room
  unfolding blocks
  put_args =
      let size = length-drop start.window w in
      let within = t.within in
      let args : TrackArgs n (sample_count h.bytes) start.byte span r.start (length (drop start.window w)) room = record {
        one = t.one;
        six = t.six;
        order = t.order;
        small = omega (arith, t.most);
        lent = t.lent;
        begins = λ l. omega (arith, begins, begins_at l);
        covers = λ l. omega (arith, size, within, ends, window_length, ends_at l);
      } in
      rw (channels_are, samples_are) args
    where
      begins_at : track_from start.byte span.from < track_to (sample_count h.bytes / 8) start.byte span.to → r.start ≡ track_from start.byte span.from / 4096 * 4096 * n
      begins_at l = begins ∙ rw (channels_are, samples_are) (sym (some_start n (sample_count h.bytes / 8) start.byte span l))

      ends_at : track_from start.byte span.from < track_to (sample_count h.bytes / 8) start.byte span.to → r.end ≡ blocks (track_to (sample_count h.bytes / 8) start.byte span.to) * 4096 * n
      ends_at l = ends ∙ rw (channels_are, samples_are) (sym (some_end n (sample_count h.bytes / 8) start.byte span l))

  pub taken : {old new : List ℕ} {next : Start}
      → new ≡ with_track (window_data (drop start.window w) r.start) header.channels header.bits_per_sample header.samples start.byte span.from span.to old
      → next.byte ≡ start.byte + header.samples / 8 → next.window ≡ start.window + (r.end - r.start) → TrackTaken h start span w old new next
  taken e byte window =
      record {
        put = e ∙ rw (channels_are, samples_are, bits_are, start_read, window_is (read_start n h start.byte span.from span.to) start.window w) refl;
        byte = byte ∙ rw length_is refl;
        window = window ∙ rw window_length refl;
      }

-- ---- slices as lists
pub rest_is : (w : List ℕ) (p : ℕ) → take (length w - p) (drop p w) ≡ drop p w
rest_is w p = take_all (length w - p) (drop p w) (omega (arith, length-drop p w))
