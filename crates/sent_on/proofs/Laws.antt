-- The three steps of `send_on`, copy, hop count and checksum, make the header sent on. Assumes nothing.
use native.Mathlib.Omega.{arith}
use Prim.Native.Nat.{ℕ, ◌+◌, ◌≤◌}
use mathlib.Core.Path.{◌≡◌, ap, sym, ◌∙◌, subst⁻¹}
use mathlib.Core.List.{List, ◌++◌}
use lib.ListN.{length, take, drop, length-append}
use lib.Seq.{take-length, length-take-le, take_at}
use Rattle.octets.specs.Octets.{pasted, fronted}
use Rattle.octets.proofs.Laws.{pasted_front, put_two}
use Rattle.header.specs.Limits.{longest_header}
use Rattle.header.specs.Form.{control_of, places_of, has_hops, has_checksum}
use Rattle.header.specs.Build.{checksum_octets}
use Rattle.header.specs.Onward.{lessened, sent_body, header_sent_on, renewal_of}
use Rattle.header.specs.declared.Renewal.{Renewal}
use Rattle.header.proofs.Bounds.{control_end, placed, header_size}
use Rattle.header.proofs.SentOn.{lessened_append, hops_before, sent_body_length, sent_length}

-- the front of a lent string, copied
pub copied : (s l m : List ℕ) (n : ℕ) → n ≤ length s → m ≡ take (length (take n s)) (take n s) ++ drop (length (take n s)) l → m ≡ take n s ++ drop n l
copied s l m n h e = e ∙ rw (take-length (take n s), length-take-le n s h)

-- what is copied lies in the octets lent, and what is written in an output of 50 octets
pub record Bounded (s : List ℕ) (c : Renewal) : Type 0 where
  pub copy : c.checksum ≤ length s
  pub hops : c.hops ≤ 48
  pub checksum : c.checksum ≤ 48

-- what the output l holds after each step, and the answer r
pub record Steps (s l : List ℕ) (c : Renewal) (l₁ l₂ l₃ : List ℕ) (r : ℕ) : Type 0 where
  pub copy : l₁ ≡ take c.checksum s ++ drop c.checksum l
  pub less : l₂ ≡ lessened c.counted c.hops l₁
  pub sum : (r ≡ c.checksum + length (checksum_octets c.summed (take c.checksum l₂))) × (l₃ ≡ pasted l₂ c.checksum (checksum_octets c.summed (take c.checksum l₂)))

module _ (s : List ℕ) (fits : (places_of s).size ≤ length s) where
  places_bounded : Bounded s (renewal_of s)
  unfolding renewal_of
  places_bounded =
      let b = placed s (control_of s) (control_end s).1 in
      record { copy = omega arith; hops = omega arith; checksum = omega arith }

  -- the body stands in front after two steps, and its checksum behind it after the third
  places_sent : (l l₁ l₂ l₃ : List ℕ) (r : ℕ) → longest_header ≤ length l → Steps s l (renewal_of s) l₁ l₂ l₃ r
      → (r ≡ (places_of s).size) × (l₃ ≡ fronted (header_sent_on s) l)
  unfolding header_sent_on sent_body renewal_of
  places_sent l l₁ l₂ l₃ r room steps =
      let on = has_hops (control_of s) in
      let hops = (places_of s).hops in
      let at = (places_of s).checksum in
      let front = take at s in
      let body = sent_body s in
      let sum = checksum_octets (has_checksum (control_of s)) body in
      let front_length : length front ≡ at = length-take-le at s places_bounded.copy in
      let length_is : length body ≡ at = sent_body_length s places_bounded.copy in
      let size : length (body ++ sum) ≡ (places_of s).size = sent_length s fits in
      let less : l₂ ≡ body ++ drop at l =
      steps.less ∙ (ap (lessened on hops) steps.copy ∙ lessened_append on hops front (drop at l) (λ h. rw front_length (hops_before s h))) in
      let before : take at l₂ ≡ body = rw less (take_at body (drop at l) at length_is) in
      let first : l₂ ≡ pasted l 0 body = less ∙ sym (rw length_is at (pasted_front l body)) in
      let both = put_two l l₂ l₃ body sum 0 at r (omega arith, first) (rw before at steps.sum) (omega (arith, length-append body sum, header_size s)) in
      (omega (arith, both.0), both.1 ∙ pasted_front l (body ++ sum))

  -- the same where it is told where the header differs
  module _ (c : Renewal) (is : c ≡ renewal_of s) where
    pub bounded : Bounded s c
    bounded = subst⁻¹ (Bounded s) is places_bounded

    pub sent : (l l₁ l₂ l₃ : List ℕ) (r : ℕ) → longest_header ≤ length l → Steps s l c l₁ l₂ l₃ r → (r ≡ (places_of s).size) × (l₃ ≡ fronted (header_sent_on s) l)
    sent l l₁ l₂ l₃ r room steps = places_sent l l₁ l₂ l₃ r room (rw is at steps)
