-- Which datagrams are answered, test by test, over plain variables. Assumes nothing.
use Rattle.std.specs.Prelude.{Option, Some, None}
use native.Mathlib.Omega.{arith}
use Prim.Native.Nat.{ℕ, ◌+◌, ◌≤◌}
use mathlib.Core.Path.{◌≡◌, refl, sym, ap, ◌∙◌}
use mathlib.Core.Bool.{Bool, true, false, not, ◌&&◌, ◌||◌}
use mathlib.Core.List.{List}
use lib.ListN.{drop, length-take}
use borrow.Author.Tests.{not-true, not-false}
use Rattle.checks.proofs.Bools.{true_false}
use Rattle.header.specs.declared.Header.{Header}
use Rattle.next_leg.specs.Leg.{data_of}
use Rattle.echo.specs.Message.{request_size, reading_of, Reading}
use Rattle.echo.proofs.Refusals.{passed}
use Rattle.echo.specs.declared.Kind.{Kind}
use Rattle.echo.specs.declared.Kind.TheVariants as kind
use Rattle.echo.specs.declared.Seen.{Seen}
use Rattle.echo.specs.declared.Message.{Message}
use Rattle.checks.specs.Told.{Good, Refused}
use Rattle.replies.specs.Request.{user_data, asking_by, asking_in, asking_of}
use Rattle.replies.specs.declared.request.Request.{Request}

-- ---- tests in a row: the first that fails ends them
pub and_stops : (v w : Bool) → v ≡ false → false ≡ (v && w)
and_stops v w h = ap (λ (x : Bool). x && w) (sym h)

pub and_goes : {x : Bool} (v w : Bool) → v ≡ true → x ≡ w → x ≡ (v && w)
and_goes v w h is = is ∙ ap (λ (y : Bool). y && w) (sym h)

pub not_so : {t : Bool} (v : Bool) → t ≡ v → t ≡ true → not v ≡ false
not_so v e h = ap not (sym e ∙ h)

pub so_not : {t : Bool} (v : Bool) → t ≡ v → t ≡ false → not v ≡ true
so_not v e h = ap not (sym e ∙ h)

pub denied : {t : Bool} (v : Bool) → t ≡ v → not t ≡ true → v ≡ false
denied {t} v e h = sym e ∙ not-true t h

pub granted : {t : Bool} (v : Bool) → t ≡ v → not t ≡ false → v ≡ true
granted {t} v e h = sym e ∙ not-false t h

-- ---- the destination: owned, or of neither kind
module _ (owned many : Bool) {t u : Bool} (et : t ≡ owned) (eu : u ≡ many) where
  pub to_one : (broadcast : Bool) → t ≡ true → false ≡ (not owned && (many || broadcast))
  to_one broadcast h = and_stops (not owned) (many || broadcast) (not_so owned et h)

  pub to_many : (broadcast : Bool) → t ≡ false → u ≡ true → true ≡ (not owned && (many || broadcast))
  to_many broadcast h k = and_goes (not owned) (many || broadcast) (so_not owned et h) (ap (λ (y : Bool). y || broadcast) (sym k ∙ eu))

  pub to_ours : {x : Bool} (broadcast : Bool) → t ≡ false → u ≡ false → x ≡ broadcast → x ≡ (not owned && (many || broadcast))
  to_ours broadcast h k is =
      and_goes (not owned) (many || broadcast) (so_not owned et h) (is ∙ ap (λ (y : Bool). y || broadcast) (sym k ∙ eu))

-- ---- the message
pub asks_by : {k : Kind} (identifier sequence : ℕ) → k ≡ kind.Request → Some (record { identifier = identifier; sequence = sequence }) ≡ asking_by k identifier sequence
asks_by identifier sequence e = sym (ap (λ (x : Kind). asking_by x identifier sequence) e)

pub asks_nothing : {k : Kind} (identifier sequence : ℕ) (s : Seen) → k ≡ kind.Reply s → None ≡ asking_by k identifier sequence
asks_nothing identifier sequence s e = sym (ap (λ (x : Kind). asking_by x identifier sequence) e)

pub asks_in : {r : Reading} {x : Option Request} (m : Message) → r ≡ Good m → x ≡ asking_by m.kind m.identifier m.sequence → x ≡ asking_in r
asks_in m e is = is ∙ sym (ap asking_in e)

pub asks_of : (h : Header) (octets : List ℕ) {r : Reading} {x : Option Request} → r ≡ reading_of (user_data h octets) → x ≡ asking_in r → x ≡ asking_of h octets
unfolding asking_of
asks_of h octets e is = is ∙ ap asking_in e

-- what asks is a request that was read
pub record Asking_read (s : List ℕ) (x y : ℕ) : Type 0 where
  pub message : Message
  pub reads : reading_of s ≡ Good message
  pub request : message.kind ≡ kind.Request
  pub identifier : message.identifier ≡ x
  pub sequence : message.sequence ≡ y

-- the two numbers of what asks
abbrev number_in : Option Request → ℕ
number_in (Some request) = request.identifier
number_in None = 0

abbrev sequence_in : Option Request → ℕ
sequence_in (Some request) = request.sequence
sequence_in None = 0

abbrev is_asking : Option Request → Bool
is_asking (Some request) = true
is_asking None = false

pub nothing_asks : {X : Type 0} {request : Request} → None ≡ Some request → X
nothing_asks e = true_false (sym (ap is_asking e))

module _ (s : List ℕ) (request : Request) where
  by_kind : (m : Message) → reading_of s ≡ Good m → (k : Kind) → m.kind ≡ k → asking_by k m.identifier m.sequence ≡ Some request
      → Asking_read s request.identifier request.sequence
  by_kind m e kind.Request ek is =
      record { message = m; reads = e; request = ek; identifier = ap number_in is; sequence = ap sequence_in is }
  by_kind m e (kind.Reply x) ek is = nothing_asks is

  by_reading : (r : Reading) → reading_of s ≡ r → asking_in r ≡ Some request → Asking_read s request.identifier request.sequence
  by_reading (Good m) e is = by_kind m e m.kind refl is
  by_reading (Refused n) e is = nothing_asks is

  pub asking_read : asking_in (reading_of s) ≡ Some request → Asking_read s request.identifier request.sequence
  asking_read is = by_reading (reading_of s) refl is

-- it has the octets of a request
pub asks_long : (h : Header) (octets : List ℕ) {request : Request} → asking_of h octets ≡ Some request → h.size + request_size ≤ h.length
unfolding asking_of
asks_long h octets {request} is =
    let a = asking_read (user_data h octets) request is in
    omega (arith, (passed (user_data h octets) a.message a.reads).long, length-take (data_of h) (drop h.size octets))
