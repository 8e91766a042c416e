-- Two datagrams that differ in the TP-ID of their headers: page 01, "Local half" ("If it would be delivered and its TP-ID is not assigned in table 3-2, the
-- local half is 26 and the onward half goes on"). Assumes nothing.
use Rattle.std.specs.Prelude.{ℕ, ◌≡◌, ◌⊎◌}
use Rattle.checks.specs.Order.{pick}
use Rattle.header.specs.declared.Header.{Header}
use Rattle.meaning.specs.Asked.{is_assigned}
use Rattle.verdict.specs.declared.Local.{Local}
use Rattle.verdict.specs.declared.Local.TheVariants.{No, Delivered, Unknown}
use Rattle.judge.specs.declared.Ending.{Ending}

-- a header with another TP-ID
abbrev pub with_tpid : ℕ → Header → Header
with_tpid tpid h =
    record {
      fields =
          record {
            tpid = tpid;
            addresses = h.fields.addresses;
            qos = h.fields.qos;
            hops = h.fields.hops;
            stamp = h.fields.stamp;
            expanded = h.fields.expanded;
            checksum = h.fields.checksum;
            intermediate = h.fields.intermediate;
          };
      length = h.length;
      size = h.size;
    }

-- the two differ in the TP-ID at most
abbrev pub SameButTpid : Header → Header → Type 0
SameButTpid h k = k ≡ with_tpid k.fields.tpid h

-- what a datagram that would be delivered gets of this node
abbrev pub local_by : ℕ → Local
local_by tpid = pick (is_assigned tpid) Delivered Unknown

-- two endings, of datagrams with these TP-IDs, differ in the local half at most: it is no of both, or of each what its TP-ID makes it
pub record SameButLocal (a b : ℕ) (e f : Ending) : Type 0 where
  pub refusal : e.refusal ≡ f.refusal
  pub onward : e.ruling.onward ≡ f.ruling.onward
  pub granted : e.ruling.granted ≡ f.ruling.granted
  pub took : e.ruling.took ≡ f.ruling.took
  pub dropped : e.ruling.dropped ≡ f.ruling.dropped
  pub precedence : e.precedence ≡ f.precedence
  pub size : e.size ≡ f.size
  -- whose headers are rewritten, and how
  pub legs : e.legs ≡ f.legs
  pub local : ((e.ruling.local ≡ No) × (f.ruling.local ≡ No)) ⊎ ((e.ruling.local ≡ local_by a) × (f.ruling.local ≡ local_by b))
