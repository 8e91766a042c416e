-- Port masks and sets of ports, taken and refused: two tables, each under one statement. Assumes nothing.
use Prim.Native.Nat.{ℕ}
use mathlib.Core.Path.{◌≡◌, refl}
use mathlib.Core.Bool.{Bool, true, false}
use mathlib.Core.List.{List, [], ◌∷◌, map}
use Rattle.address.specs.Octets.{dotted}
use Rattle.address.specs.Mask.{ones_below, ones_of, mask_form}
use Rattle.settings.specs.Refusals.{ones_refused, form_refused, port_mask_refused}
use Rattle.settings.specs.Sets.{names_other, set_refused}

-- an address, a mask, and whether the mask is refused
abbrev pub masks : List (ℕ × ℕ × Bool)
masks =
    (dotted 10 4 9 14, dotted 255 255 255 0, false)
    ∷ (dotted 10 4 9 0, dotted 255 255 255 0, false)
    ∷ (dotted 10 4 9 14, dotted 255 255 255 128, true)
    ∷ (dotted 10 4 9 14, dotted 255 255 0 0, true)
    ∷ (dotted 172 16 0 255, dotted 255 255 0 0, false)
    ∷ (dotted 172 16 0 255, dotted 255 255 255 0, true)
    ∷ (dotted 192 0 2 1, dotted 255 0 0 0, false)
    ∷ (dotted 192 0 2 1, dotted 254 0 0 0, true)
    ∷ (dotted 192 0 2 1, dotted 255 255 255 252, false)
    ∷ (dotted 192 0 2 1, dotted 255 255 255 254, true)
    ∷ (dotted 192 0 2 1, dotted 255 0 255 0, true)
    ∷ []

pub mask_examples : map (λ r. port_mask_refused (record { 0 = r.0 }) (record { 0 = r.1 })) masks ≡ map (λ r. r.2) masks
unfolding port_mask_refused form_refused ones_refused mask_form ones_of ones_below
mask_examples = refl

-- a set, the ports that are set up, and whether the set is refused
abbrev pub sets : List (ℕ × ℕ × Bool)
sets =
    (0, 0, false)
    ∷ (0b0000_0101, 0b0000_0111, false)
    ∷ (0b0000_1101, 0b0000_0111, true)
    ∷ (0b1111_1111, 0b1111_1111, false)
    ∷ (0b1_0000_0000, 0b1_1111_1111, true)
    ∷ (0x8000_0000, 0xFFFF_FFFF, true)
    ∷ []

pub set_examples : map (λ r. set_refused r.0 r.1) sets ≡ map (λ r. r.2) sets
unfolding set_refused names_other
set_examples = refl
