-- What a gathering has done before a track, and what is left to do.
use Rattle.std.proofs.Common.{◌≡◌, refl, sym, ap, subst, ◌∙◌, List, [], ◌∷◌, ℕ, ◌+◌, ◌-◌, ◌*◌, ◌≤◌, ◌<◌, min, zero-add, mul_assoc, mul-le-mul_right, arith}
use Rattle.std.proofs.Common.{length}
use native.Mathlib.Nat.{sub-zero}
use Rattle.numbers.specs.Lists.{Each}
use Rattle.dsf.specs.Dsf.{channels}
use Rattle.tracks.specs.Runs.{frames_from}
use Rattle.tracks.specs.Tracks.{Head, Track, heads, head_length, all_length, head_at, heads_of, tracks_frame}
use Rattle.tracks.specs.Windows.{read_start, read_bytes, windowed, windowed_data, windows_length}
use Rattle.tracks.proofs.Bytes.{Alike}
use Rattle.tracks_open.specs.inner.Trying.{heads_from}
use Rattle.tracks_open.proofs.Heads.{front, none_left}
use Rattle.tracks_put.specs.declared.Span.{Span}
use Rattle.tracks_put.specs.inner.Placing.{with_fill}
use Rattle.tracks_gather.specs.declared.Start.{Start}
use Rattle.tracks_gather.specs.inner.Gathering.{with_one, with_tracks, TakeArgs, TrackTaken, GatherArgs}
use Rattle.tracks_gather.proofs.Frames.{gathered_frames}

pub all_heads : (bytes lengths : List ℕ) → heads_from bytes lengths 0 ≡ heads_of bytes lengths
unfolding heads_of
all_heads bytes lengths = rw (sub-zero (length lengths)) refl

-- ---- tracks out of windows have the heads
pub windowed_heads : (n a b o p : ℕ) (w : List ℕ) (hs : List Head) → heads (windowed n a b o p w hs) ≡ hs
unfolding windowed
windowed_heads n a b o p w [] = refl
windowed_heads n a b o p w (h ∷ hs) = ap (λ (l : List Head). h ∷ l) (windowed_heads n a b (o + head_length h) (p + read_bytes n h o a b) w hs)

pub windowed_alike : (n a b o p : ℕ) (w : List ℕ) (hs : List Head) → Each (λ h. channels h.bytes ≡ n) hs → Alike n (windowed n a b o p w hs)
unfolding windowed
windowed_alike n a b o p w [] e = tt
windowed_alike n a b o p w (h ∷ hs) e = (e.0, windowed_alike n a b (o + head_length h) (p + read_bytes n h o a b) w hs e.1)

-- ---- before a track: of n channels, some bytes of an album of `total` into a buffer of `room`, out of windows w,
-- which will hold `whole`
pub record Going (n : ℕ) (span : Span) (total room : ℕ) (w whole : List ℕ) (rest : List Head) (start : Start) (out : List ℕ) : Type 0 where
  pub alike : Each (λ h. channels h.bytes ≡ n) rest
  pub gives : with_tracks n span.from span.to start.byte (windowed n span.from span.to start.byte start.window w rest) out ≡ whole
  pub windows : start.window + windows_length n span.from span.to start.byte rest ≡ length w
  pub bytes : start.byte + all_length rest ≡ total
  pub same : length out ≡ room

module _ {n : ℕ} {span : Span} {total room : ℕ} {w whole : List ℕ} {h : Head} {rest : List Head} {start : Start} {out : List ℕ}
    (g : Going n span total room w whole (h ∷ rest) start out) where
  pub window_there : start.window + read_bytes n h start.byte span.from span.to ≤ length w
  unfolding windows_length
  window_there = omega (arith, g.windows)

  pub bytes_there : start.byte + head_length h ≤ total
  unfolding all_length
  bytes_there = omega (arith, g.bytes)

  pub go_on : {new : List ℕ} {next : Start} → TrackTaken h start span w out new next → length new ≡ length out → Going n span total room w whole rest next new
  unfolding windows_length all_length with_tracks windowed
  go_on {new} {next} t e =
      let f : channels h.bytes ≡ n = g.alike.0 in
      let byte = t.byte in
      let window : next.window ≡ start.window + read_bytes n h start.byte span.from span.to = subst (λ (m : ℕ). next.window ≡ start.window + read_bytes m h start.byte span.from span.to) f t.window in
      let put : new ≡ with_one n span.from span.to start.byte (record { head = h; read = windowed_data (read_start n h start.byte span.from span.to) start.window w }) out =
      subst
      (λ (m : ℕ). new ≡ with_one m span.from span.to start.byte (record { head = h; read = windowed_data (read_start m h start.byte span.from span.to) start.window w }) out) f t.put in
      record {
        alike = g.alike.1;
        gives = rw (byte, window, put) g.gives;
        windows = rw (byte, window) (omega (arith, g.windows));
        bytes = rw byte (omega (arith, g.bytes));
        same = e ∙ g.same;
      }

-- ---- all of them
module _ {heads' lengths : List ℕ} {n : ℕ} {frames : Span} {size room : ℕ} (g : GatherArgs heads' lengths n frames size room) where
  abbrev hs : List Head
  hs = heads_of heads' lengths

  abbrev pub a : ℕ
  a = frames.from * 4704

  abbrev pub b : ℕ
  b = frames.to * 4704

  abbrev pub span : Span
  span = record { from = a; to = b }

  abbrev pub total : ℕ
  total = all_length hs

  module _ (w old : List ℕ) (is : size ≡ length w) (lent : room ≡ length old) where
    abbrev ts : List Track
    ts = windowed n a b 0 0 w hs

    abbrev pub all : List ℕ
    all = with_tracks n a b 0 ts old

    abbrev pub Goes : ℕ → Start → List ℕ → Type 0
    Goes k = Going n span total (length old) w all (heads_from heads' lengths k)

    pub begin : Goes 0 (record { byte = 0; window = 0 }) old
    begin = rw (all_heads heads' lengths) (record { alike = g.alike; gives = refl; windows = zero-add (windows_length n a b 0 hs) ∙ sym g.windows ∙ is; bytes = zero-add total; same = refl })

    pub take_args : (k : ℕ) (start : Start) (out : List ℕ) → k < length lengths → Goes k start out → TakeArgs heads' lengths k start span (length w) (length out)
    take_args k start out h x =
        let y = rw (front heads' lengths k h) at x in
        let f : channels (head_at heads' lengths k).bytes ≡ n = y.alike.0 in
        let order : frames.from * 4704 ≤ frames.to * 4704 = omega (arith, g.order) in
        let parts : b - a ≡ (frames.to - frames.from) * 4704 = omega arith in
        let long : length out ≡ (b - a) * n = y.same ∙ sym lent ∙ g.lent ∙ sym (rw parts (mul_assoc (frames.to - frames.from) 4704 n)) in
        record {
          is = g.is;
          there = h;
          one = rw f g.one;
          six = rw f g.six;
          order = order;
          most = omega (arith, g.most);
          lent = rw f long;
          within = rw f (window_there y);
          short = omega (arith, bytes_there y, g.short);
        }

    pub goes_on : (k : ℕ) (start next : Start) (out new : List ℕ) → k < length lengths → Goes k start out
        → TrackTaken (head_at heads' lengths k) start span w out new next → length new ≡ length out → Goes (k + 1) next new
    goes_on k start next out new h x t e = go_on (rw (front heads' lengths k h) at x) t e

    -- when no track is left
    module _ (k : ℕ) (start : Start) (out : List ℕ) (h : length lengths ≤ k) (x : Goes k start out) where
      y : Going n span total (length old) w all [] start out
      y = rw (none_left heads' lengths k h) at x

      pub ended : out ≡ all
      unfolding windowed with_tracks
      ended = y.gives

      pub in_all : start.byte ≡ total
      unfolding all_length
      in_all = omega (arith, y.bytes)

      pub fill_within : (min start.byte b - a) * n ≤ length out
      fill_within =
          let m : min start.byte b - a ≤ b - a = omega arith in
          let parts : b - a ≡ (frames.to - frames.from) * 4704 = omega arith in
          let long : length out ≡ (b - a) * n = y.same ∙ sym lent ∙ g.lent ∙ sym (rw parts (mul_assoc (frames.to - frames.from) 4704 n)) in
          omega (arith, long, mul-le-mul_right n m)

      pub gathered : {new : List ℕ} → new ≡ with_fill ((min start.byte b - a) * n) out → new ≡ frames_from (tracks_frame n ts) frames.from (frames.to - frames.from)
      gathered e =
          let same : all_length (heads ts) ≡ total = ap all_length (windowed_heads n a b 0 0 w hs) in
          let made = gathered_frames n ts (windowed_alike n a b 0 0 w hs g.alike) frames.from frames.to old g.order (sym lent ∙ g.lent) in
          e ∙ rw (in_all, ended) (rw same at made)
