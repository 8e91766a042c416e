-- The eight parts of what receiving answers, and the parts of what answering does. Assumes nothing.
use Prim.Native.Nat.{ℕ, ◌/◌, ◌%◌}
use mathlib.Core.Path.{◌≡◌}
use Rattle.verdict.specs.Numbers.{local_number, onward_number}
use Rattle.verdict.specs.declared.Ruling.{Ruling}
use Rattle.judge.specs.declared.Ending.{Ending}
use Rattle.answers.specs.Answers.{ruling_parts, header_parts, receive_number, reply_number}

pub received :
    (e : Ending) {below n a b c d f g h k local onward : ℕ}
    → a ≡ e.refusal % 256
    → local ≡ local_number e.ruling.local
    → b ≡ local % 256
    → onward ≡ onward_number e.ruling.onward
    → c ≡ onward % 256
    → d ≡ e.ruling.took % 256
    → f ≡ e.ruling.dropped % 256
    → below ≡ ruling_parts a b c d f
    → g ≡ e.size % 256
    → h ≡ e.legs.octets % 256
    → k ≡ e.legs.rewritten % 256
    → n ≡ header_parts below g h k
    → n ≡ receive_number e
unfolding receive_number
received e e1 e2 e3 e4 e5 e6 e7 e8 e9 e10 e11 e12 = cc

pub replied :
    (refusal : ℕ) (x : Ruling) (octets : ℕ) {below n a c d f g h onward : ℕ}
    → a ≡ refusal % 256
    → onward ≡ onward_number x.onward
    → c ≡ onward % 256
    → d ≡ x.took % 256
    → f ≡ x.dropped % 256
    → below ≡ ruling_parts a 0 c d f
    → g ≡ octets % 256
    → h ≡ octets / 256 % 256
    → n ≡ header_parts below g h 0
    → n ≡ reply_number refusal x octets
unfolding reply_number
replied refusal x octets e1 e2 e3 e4 e5 e6 e7 e8 e9 = cc
