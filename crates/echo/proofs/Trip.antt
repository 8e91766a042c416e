-- Reading and writing are each other's inverse: a written message is read as what it was written of, with its data, and a message that is read is written again
-- octet for octet. So a reply is never read as a request, nor a request as a reply. Assumes nothing.
use native.Mathlib.Omega.{arith}
use Prim.Native.Nat.{ℕ, ◌+◌, ◌%◌, ◌^◌, ◌≤◌, ◌<◌}
use mathlib.Core.Path.{◌≡◌, refl, ap, sym, ◌∙◌}
use mathlib.Core.List.{List, ◌++◌, append_assoc, append-nil}
use mathlib.Core.Logic.{◌⊎◌, inl, inr}
use lib.ListN.{get_or, length, take, take-append-drop}
use lib.Seq.{drop_at}
use Rattle.octets.specs.Octets.{octet, number, octets}
use Rattle.octets.proofs.Laws.{length_octets, octet_number_lem}
use Rattle.header.proofs.Pieces.{Stands, stands_after, number_there}
use Rattle.header.proofs.Back.{number_back, octet_back}
use Rattle.echo.specs.Message.{request_size, reply_size, request_type, reply_type, echo_code, fixed_size, type_of, seen_octets, kind_octets, fixed_octets, sum_of, message_octets, seen_of, kind_of, message_of, unsummed, reading_of, echoed_in}
use Rattle.echo.specs.declared.Seen.{Seen}
use Rattle.echo.specs.declared.Kind.{Kind}
use Rattle.echo.specs.declared.Kind.TheVariants.{Request, Reply}
use Rattle.echo.specs.declared.Message.{Message}
use Rattle.checks.specs.Told.{Good}
use Rattle.echo.proofs.Laws.{fixed_length, message_length}
use Rattle.echo.proofs.Refusals.{Passed, passed, passed_reads}

-- ---- every number of its width

pub record SeenFits (s : Seen) : Type 0 where
  pub hops : s.hops < 2 ^ 8
  pub format : s.format < 2 ^ 8
  pub stamp : s.stamp < 2 ^ 64
  pub mtu : s.mtu < 2 ^ 32
  pub rate : s.rate < 2 ^ 32

abbrev pub KindFits : Kind → Type 0
KindFits Request = Unit
KindFits (Reply s) = SeenFits s

pub record Fits (m : Message) : Type 0 where
  pub identifier : m.identifier < 2 ^ 16
  pub sequence : m.sequence < 2 ^ 16
  pub kind : KindFits m.kind

-- ---- the octets of a message

pub written_length : (m : Message) (echoed : List ℕ) → length (message_octets m echoed) ≡ fixed_size m.kind + length echoed
unfolding message_octets
written_length m echoed = message_length m (sum_of m echoed) echoed

-- the data stand behind the fixed part
pub written_data : (m : Message) (echoed : List ℕ) → echoed_in m (message_octets m echoed) ≡ echoed
unfolding message_octets
written_data m echoed = drop_at (fixed_octets m (sum_of m echoed)) echoed (fixed_size m.kind) (fixed_length m (sum_of m echoed))

-- the type stands first
type_octet : (k : Kind) → type_of k % 256 ≡ type_of k
type_octet Request = refl
type_octet (Reply s) = refl

pub written_type : (m : Message) (echoed : List ℕ) → octet (message_octets m echoed) 0 ≡ type_of m.kind
unfolding message_octets fixed_octets octets
written_type m echoed = type_octet m.kind

written_code : (m : Message) (echoed : List ℕ) → octet (message_octets m echoed) 1 ≡ echo_code
unfolding message_octets fixed_octets octets
written_code m echoed = refl

-- the checksum's field as zero
unsummed_fixed : (m : Message) (sum : ℕ) (echoed : List ℕ) → unsummed (fixed_octets m sum ++ echoed) ≡ fixed_octets m 0 ++ echoed
unfolding fixed_octets octets
unsummed_fixed m sum echoed = refl

-- ---- reading what was written

-- what stands from the checksum on
record Standing (s : List ℕ) (m : Message) (sum : ℕ) (echoed : List ℕ) : Type 0 where
  sum_is : number s 2 2 ≡ sum
  identifier : number s 4 2 ≡ m.identifier
  sequence : number s 6 2 ≡ m.sequence
  kind : Stands s 8 (kind_octets m.kind) echoed

standing : (m : Message) (sum : ℕ) (echoed : List ℕ) → Fits m → sum < 2 ^ 16 → Standing (fixed_octets m sum ++ echoed) m sum echoed
unfolding fixed_octets octets
standing m sum echoed fits small =
    let s = fixed_octets m sum ++ echoed in
    let field : Stands s 2 (octets 2 sum) (octets 2 m.identifier ++ (octets 2 m.sequence ++ (kind_octets m.kind ++ echoed))) =
    record { is = simp append_assoc } in
    let first = stands_after (octets 2 m.identifier) 4 field refl in
    let second = stands_after (octets 2 m.sequence) 6 first refl in
    record {
      sum_is = number_there 2 sum field small;
      identifier = number_there 2 m.identifier first fits.identifier;
      sequence = number_there 2 m.sequence second fits.sequence;
      kind = stands_after (kind_octets m.kind) 8 second refl;
    }

seen_read : {s : List ℕ} (x : Seen) (rest : List ℕ) → SeenFits x → Stands s 8 (seen_octets x) rest → seen_of s ≡ x
unfolding seen_octets
seen_read {s} x rest fits h =
    let hops : Stands s 8 (octets 1 x.hops) (octets 1 x.format ++ (octets 8 x.stamp ++ (octets 4 x.mtu ++ (octets 4 x.rate ++ rest)))) =
    record { is = h.is ∙ simp append_assoc } in
    let format = stands_after (octets 1 x.format) 9 hops (rw (length_octets 1 x.hops)) in
    let stamp = stands_after (octets 8 x.stamp) 10 format (rw (length_octets 1 x.format)) in
    let mtu = stands_after (octets 4 x.mtu) 18 stamp (rw (length_octets 8 x.stamp)) in
    let rate = stands_after (octets 4 x.rate) 22 mtu (rw (length_octets 4 x.mtu)) in
    let is-hops : octet s 8 ≡ x.hops = octet_number_lem s 8 ∙ number_there 1 x.hops hops fits.hops in
    let is-format : octet s 9 ≡ x.format = octet_number_lem s 9 ∙ number_there 1 x.format format fits.format in
    rw (is-hops, is-format, number_there 8 x.stamp stamp fits.stamp, number_there 4 x.mtu mtu fits.mtu, number_there 4 x.rate rate fits.rate)

kind_read : {s : List ℕ} (k : Kind) (rest : List ℕ) → KindFits k → octet s 0 ≡ type_of k → Stands s 8 (kind_octets k) rest → kind_of s ≡ k
kind_read Request rest fits type h = rw type
kind_read (Reply x) rest fits type h = rw type (ap Reply (seen_read x rest fits h))

either_type : (s : List ℕ) (k : Kind) → octet s 0 ≡ type_of k → (octet s 0 ≡ request_type) ⊎ (octet s 0 ≡ reply_type)
either_type s Request e = inl e
either_type s (Reply x) e = inr e

least : (k : Kind) → request_size ≤ fixed_size k
least Request = omega arith
least (Reply x) = omega arith

reply_least : (k : Kind) → type_of k ≡ reply_type → reply_size ≤ fixed_size k
reply_least Request e = absurd (omega arith)
reply_least (Reply x) e = omega arith

pub read_written : (m : Message) (echoed : List ℕ) → Fits m → reading_of (message_octets m echoed) ≡ Good m
unfolding message_octets sum_of message_of
read_written m echoed fits =
    let sum = sum_of m echoed in
    let s = message_octets m echoed in
    let type = written_type m echoed in
    let size = written_length m echoed in
    let there = standing m sum echoed fits (omega arith) in
    passed_reads s m
    (record {
      long = omega (arith, size, least m.kind);
      type = either_type s m.kind type;
      code = written_code m echoed;
      whole = λ r. omega (arith, size, reply_least m.kind (sym type ∙ r));
      right = there.sum_is ∙ rw (unsummed_fixed m sum echoed);
      is = rw (there.identifier, there.sequence, kind_read m.kind echoed fits.kind type there.kind);
    })

-- ---- writing what was read

-- the first octet is the type of the kind that is read
kind_type : (s : List ℕ) → (octet s 0 ≡ request_type) ⊎ (octet s 0 ≡ reply_type) → octet s 0 ≡ type_of (kind_of s)
kind_type s (inl e) = rw e
kind_type s (inr e) = rw e

module _ (s : List ℕ) (small : (i : ℕ) → get_or s i 0 < 256) where
  seen_again : 26 ≤ length s → take 8 s ++ seen_octets (seen_of s) ≡ take 26 s
  unfolding seen_octets
  seen_again h =
      let hops = octet_back s small 8 (octet s 8) refl (omega arith) in
      let format = octet_back s small 9 (octet s 9) refl (omega arith) in
      let stamp = number_back s small 10 8 (omega arith) in
      let mtu = number_back s small 18 4 (omega arith) in
      let rate = number_back s small 22 4 h in
      simp (← append_assoc, hops, format, stamp, mtu, rate)

  kind_again : (octet s 0 ≡ request_type) ⊎ (octet s 0 ≡ reply_type) → (octet s 0 ≡ reply_type → reply_size ≤ length s)
      → take 8 s ++ kind_octets (kind_of s) ≡ take (fixed_size (kind_of s)) s
  kind_again (inl e) h = rw e (append-nil (take 8 s))
  kind_again (inr e) h = rw e (seen_again (h e))

  module _ (m : Message) (e : reading_of s ≡ Good m) where
    p : Passed s m
    p = passed s m e

    front_again : fixed_octets (message_of s) (number s 2 2) ≡ take (fixed_size (kind_of s)) s
    unfolding fixed_octets message_of
    front_again =
        let kind = kind_again p.type p.whole in
        let long = p.long in
        let type = octet_back s small 0 (type_of (kind_of s)) (sym (kind_type s p.type)) (omega arith) in
        let code = octet_back s small 1 0 (sym p.code) (omega arith) in
        let sum = number_back s small 2 2 (omega arith) in
        let identifier = number_back s small 4 2 (omega arith) in
        let sequence = number_back s small 6 2 (omega arith) in
        simp (← append_assoc, type, code, sum, identifier, sequence, kind)

    whole_again : fixed_octets m (number s 2 2) ++ echoed_in m s ≡ s
    unfolding message_of
    whole_again = rw (p.is, front_again) (take-append-drop (fixed_size (kind_of s)) s)

    sum_again : sum_of m (echoed_in m s) ≡ number s 2 2
    unfolding sum_of
    sum_again =
        let zeroed : fixed_octets m 0 ++ echoed_in m s ≡ unsummed s = sym (unsummed_fixed m (number s 2 2) (echoed_in m s)) ∙ ap unsummed whole_again in
        rw zeroed (sym p.right)

    pub written_read : message_octets m (echoed_in m s) ≡ s
    unfolding message_octets
    written_read = rw sum_again whole_again

-- ---- a reply is never read as a request, nor a request as a reply

-- the first octet is the type of what is read
pub read_type : (s : List ℕ) (m : Message) → reading_of s ≡ Good m → octet s 0 ≡ type_of m.kind
unfolding message_of
read_type s m e = let p = passed s m e in rw p.is (kind_type s p.type)

-- whatever the widths of the numbers, what is read has the type that was written
pub type_kept : (m read : Message) (echoed : List ℕ) → reading_of (message_octets m echoed) ≡ Good read → type_of read.kind ≡ type_of m.kind
type_kept m read echoed e = sym (read_type (message_octets m echoed) read e) ∙ written_type m echoed

pub reply_no_request : (m read : Message) (echoed : List ℕ) (x : Seen) → m.kind ≡ Reply x → reading_of (message_octets m echoed) ≡ Good read
    → read.kind ≡ Request → ⊥
reply_no_request m read echoed x is e request =
    let kept = rw (is, request) at (type_kept m read echoed e) in
    omega (arith, kept)

pub request_no_reply : (m read : Message) (echoed : List ℕ) (x : Seen) → m.kind ≡ Request → reading_of (message_octets m echoed) ≡ Good read
    → read.kind ≡ Reply x → ⊥
request_no_reply m read echoed x is e reply =
    let kept = rw (is, reply) at (type_kept m read echoed e) in
    omega (arith, kept)
