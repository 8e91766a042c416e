-- The octets of a reply as they are written: the header through a buffer, the message behind it. Assumes nothing.
use native.Mathlib.Omega.{arith}
use Prim.Native.Nat.{ℕ, ◌+◌, ◌-◌, ◌≤◌, ◌<◌}
use mathlib.Core.Path.{◌≡◌, sym, ap, ap₂, ◌∙◌}
use mathlib.Core.Bool.{not}
use mathlib.Core.Logic.{◌≢◌}
use mathlib.Core.List.{List, [], ◌++◌, append_assoc, append-nil}
use lib.ListN.{length, take, drop, length-append, length-drop, length-take, drop_of_length-le}
use lib.Seq.{take_all, take-length, take_at, drop_at, drop-drop, length-take-le}
use lib.Dec.{eqb}
use borrow.Author.Tests.{eq-eqb, ne_eqb}
use borrow.Rule.Slice.PartMut.{put_mid}
use Rattle.octets.specs.Octets.{fronted}
use Rattle.header.specs.Limits.{longest_header, length_limit}
use Rattle.header.specs.Build.{size_of, header_octets}
use Rattle.header.specs.declared.Fields.{Fields}
use Rattle.header.proofs.BuiltLaws.{header_length}
use Rattle.next_leg.proofs.Made.{small_size}
use Rattle.echo.specs.Message.{reply_size, fixed_size, message_octets}
use Rattle.replies.specs.Replied.{wire_fields, wire_length, echoed_of, wire_reply, replied_output, Goes}
use Rattle.replies.specs.declared.Answering.{Answering}
use Rattle.replies.specs.declared.sending.Replied.{Replied}
use Rattle.replies.proofs.Going.{wired_small}

-- ---- a front, and what is written behind it
pub put_behind : (front behind lent now rest : List ℕ) (size : ℕ) → length front ≡ size → now ≡ fronted front lent
    → rest ≡ fronted behind (take (length now - size) (drop size now)) → put_mid size (length now - size) now rest ≡ fronted (front ++ behind) lent
put_behind front behind lent now rest size es en er =
    let n = length now - size in
    let first : take size now ≡ front = ap (take size) en ∙ take_at front (drop (length front) lent) size es in
    let then : drop size now ≡ drop size lent = ap (drop size) en ∙ drop_at front (drop (length front) lent) size es ∙ ap (λ (k : ℕ). drop k lent) es in
    let long : length now ≡ size + length (drop size lent) =
    ap length en ∙ length-append front (drop (length front) lent) ∙ ap (λ (k : ℕ). k + length (drop k lent)) es in
    let few : length (drop size lent) ≤ n = omega (arith, long) in
    let all : take n (drop size now) ≡ drop size lent = ap (take n) then ∙ take_all n (drop size lent) few in
    let none : drop n (drop size now) ≡ [] = ap (drop n) then ∙ drop_of_length-le (drop size lent) few in
    ap₂ (λ (x y : List ℕ). x ++ y) first
    (ap₂ (λ (x y : List ℕ). x ++ y) (er ∙ ap (λ (l : List ℕ). behind ++ drop (length behind) l) all) none ∙ append-nil (behind ++ drop (length behind) (drop size lent)))
    ∙ ap (λ (l : List ℕ). front ++ (behind ++ l))
    (drop-drop (length behind) size lent ∙ ap (λ (k : ℕ). drop k lent) (ap (λ (k : ℕ). k + length behind) (sym es) ∙ sym (length-append front behind)))
    ∙ sym (append_assoc front behind (drop (length (front ++ behind)) lent))

-- ---- a reply that does not go
pub none_written : (a : Answering) (e : Replied) (octets lent : List ℕ) → e.ruling.took ≡ 0 → lent ≡ replied_output a e octets lent
unfolding replied_output
none_written a e octets lent h = simp (eq-eqb e.ruling.took 0 h)

-- ---- the data that it sends back are as many as it counts
pub count_length : (a : Answering) (octets : List ℕ) → a.from + a.count ≤ length octets → length (echoed_of a octets) ≡ a.count
count_length a octets h = length-take-le a.count (drop a.from octets) (omega (arith, h, length-drop a.from octets))

-- ---- one that goes
module _ (a : Answering) (e : Replied) (octets lent : List ℕ) (g : Goes a e octets lent) where
  pub echoed_length : length (echoed_of a octets) ≡ a.count
  echoed_length = count_length a octets g.within

  -- the part that is lent
  part_is : take (a.from + a.count - a.from) (drop a.from octets) ≡ echoed_of a octets
  part_is =
      let back : a.from + a.count - a.from ≡ a.count = omega arith in
      ap (λ (k : ℕ). take k (drop a.from octets)) back

  pub few_data : reply_size + a.count < length_limit
  few_data = omega (arith, g.made.count)

  module _ {f : Fields} (ef : f ≡ wire_fields (not (eqb e.far 0)) a.arrival.0 e.code a.fields) {size : ℕ} (es : size ≡ size_of f) where
    pub size_small : size ≤ longest_header
    size_small = omega (arith, es, small_size f (wired_small _ a _ g.made ef).1.0)

    pub all_fits : size + (reply_size + a.count) ≤ length lent
    unfolding wire_length
    all_fits = omega (arith, es ∙ ap size_of ef, g.fits)

    abbrev header : List ℕ
    header = header_octets f (reply_size + a.count)

    header_size : length header ≡ size
    header_size = header_length f (reply_size + a.count) (wired_small _ a _ g.made ef).1.0 ∙ sym es

    module _ (blank : List ℕ) {buffer : List ℕ} (eb : buffer ≡ fronted header blank) where
      -- the front of the buffer is the header
      pub buffer_front : take size buffer ≡ header
      buffer_front = ap (take size) eb ∙ take_at header (drop (length header) blank) size header_size

      pub buffer_fits : length (take size buffer) ≤ length lent
      buffer_fits = omega (arith, ap length buffer_front ∙ header_size, all_fits)

      module _ {now : List ℕ} (en : now ≡ take (length (take size buffer)) (take size buffer) ++ drop (length (take size buffer)) lent) where
        pub front_put : now ≡ fronted header lent
        front_put =
            en
            ∙ ap (λ (l : List ℕ). take (length l) l ++ drop (length l) lent) buffer_front
            ∙ ap (λ (l : List ℕ). l ++ drop (length header) lent) (take-length header)

        pub as_long : length now ≡ length lent
        as_long =
            let len : length now ≡ length header + length (drop (length header) lent) = ap length front_put ∙ length-append header (drop (length header) lent) in
            omega (arith, len, length-drop (length header) lent, header_size, all_fits)

        -- there is room for the message behind it
        pub message_fits : fixed_size a.message.kind + length (take (a.from + a.count - a.from) (drop a.from octets))
            ≤ length (take (length now - size) (drop size now))
        message_fits =
            omega (
              arith,
              g.made.reply,
              ap length part_is ∙ echoed_length,
              length-take (length now - size) (drop size now),
              length-drop size now,
              as_long,
              all_fits,
            )

        pub reply-written : (e.ruling.took ≢ 0) → {rest : List ℕ}
            → rest ≡ fronted (message_octets a.message (take (a.from + a.count - a.from) (drop a.from octets))) (take (length now - size) (drop size now))
            → put_mid size (length now - size) now rest ≡ replied_output a e octets lent
        unfolding replied_output wire_reply
        reply-written some {rest} er =
            let message = message_octets a.message (echoed_of a octets) in
            let told : rest ≡ fronted message (take (length now - size) (drop size now)) =
            er ∙ ap (λ (l : List ℕ). fronted (message_octets a.message l) (take (length now - size) (drop size now))) part_is in
            simp (ne_eqb e.ruling.took 0 some)
            (put_behind header message lent now rest size header_size front_put told
            ∙ ap (λ (x : Fields). fronted (header_octets x (reply_size + a.count) ++ message) lent) ef)
