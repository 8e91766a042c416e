-- Words are boards and states: what is read from any 43 words, or from any 732, and written again, is those words, and no two lists of words hold
-- the same board, or the same state. Assumes nothing.
use native.Mathlib.Omega.{arith}
use Prim.Native.Nat.{ℕ, ◌+◌, ◌≤◌, ◌<◌}
use mathlib.Core.Path.{◌≡◌, sym, ap, ◌∙◌}
use mathlib.Core.List.{List, [], ◌∷◌}
use lib.ListN.{length, get_or}
use Rattle.words.specs.Cut.{total, start, cut, joined}
use Rattle.words.proofs.Parts.{spelled_whole}
use Rattle.words.proofs.Pieces.{flat_rows}
use Rattle.words.proofs.Cuts.{cuts_joined, cut_length}
use Rattle.state.specs.Layout.{board_sections, board_words, board_of, decode_board, encode_board, owned_of, owned_words}
use Rattle.state.specs.Layout.{sections, mission_words, state_of, decode, encode}
use Rattle.state.specs.Layout.{group_of, group_words, path_of, path_words, pair_place_of, pair_words, queue_of, queue_words}
use Rattle.state.proofs.Records.{owned_words_lem, group_words_lem, path_words_lem, pair_words_lem, queue_words_lem}

-- ---- the board
-- each section has its length
pub board_section_length : (w : List ℕ) → length w ≡ board_words → (c : ℕ) → c < 4 → start board_sections c + get_or board_sections c 0 ≤ board_words
    → length (cut board_sections w c) ≡ get_or board_sections c 0
board_section_length w l c h m = cut_length board_sections w c h (rw l m)

same_four : (a b c d a' b' c' d' : List ℕ) → a ≡ a' → b ≡ b' → c ≡ c' → d ≡ d' → joined (a ∷ b ∷ c ∷ d ∷ []) ≡ joined (a' ∷ b' ∷ c' ∷ d' ∷ [])
same_four a b c d a' b' c' d' p q r s = rw (p, q, r, s)

pub encode_board_decode : (w : List ℕ) → length w ≡ board_words → encode_board (decode_board w) ≡ w
unfolding encode_board decode_board board_of total
encode_board_decode w h =
    let long = board_section_length w h in
    same_four _ _ _ _ _ _ _ _
    (spelled_whole 1 (cut board_sections w 0) (long 0 (omega arith) (omega arith)))
    (flat_rows owned_of owned_words 5 owned_words_lem 8 (cut board_sections w 1) (long 1 (omega arith) (omega arith)))
    (spelled_whole 1 (cut board_sections w 2) (long 2 (omega arith) (omega arith)))
    (spelled_whole 1 (cut board_sections w 3) (long 3 (omega arith) (omega arith)))
    ∙ cuts_joined board_sections w h

pub decode_board_injective : (v w : List ℕ) → length v ≡ board_words → length w ≡ board_words → decode_board v ≡ decode_board w → v ≡ w
decode_board_injective v w a b h = sym (encode_board_decode v a) ∙ ap encode_board h ∙ encode_board_decode w b

-- ---- a mission's state
pub section_length : (w : List ℕ) → length w ≡ mission_words → (c : ℕ) → c < 7 → start sections c + get_or sections c 0 ≤ mission_words
    → length (cut sections w c) ≡ get_or sections c 0
section_length w l c h m = cut_length sections w c h (rw l m)

same_joined : (e a b c d f g a' b' c' d' f' g' : List ℕ) → a ≡ a' → b ≡ b' → c ≡ c' → d ≡ d' → f ≡ f' → g ≡ g'
    → joined (a ∷ b ∷ c ∷ d ∷ e ∷ f ∷ g ∷ []) ≡ joined (a' ∷ b' ∷ c' ∷ d' ∷ e ∷ f' ∷ g' ∷ [])
same_joined e a b c d f g a' b' c' d' f' g' p q r s t u = rw (p, q, r, s, t, u)

pub encode_decode : (w : List ℕ) → length w ≡ mission_words → encode (decode w) ≡ w
unfolding encode decode state_of total
encode_decode w h =
    let long = section_length w h in
    same_joined (cut sections w 4) _ _ _ _ _ _ _ _ _ _ _ _
    (spelled_whole 1 (cut sections w 0) (long 0 (omega arith) (omega arith)))
    (flat_rows group_of group_words 4 group_words_lem 16 (cut sections w 1) (long 1 (omega arith) (omega arith)))
    (flat_rows path_of path_words 4 path_words_lem 16 (cut sections w 2) (long 2 (omega arith) (omega arith)))
    (flat_rows queue_of queue_words 33 queue_words_lem 8 (cut sections w 3) (long 3 (omega arith) (omega arith)))
    (spelled_whole 1 (cut sections w 5) (long 5 (omega arith) (omega arith)))
    (flat_rows pair_place_of pair_words 5 pair_words_lem 64 (cut sections w 6) (long 6 (omega arith) (omega arith)))
    ∙ cuts_joined sections w h

pub decode_injective : (v w : List ℕ) → length v ≡ mission_words → length w ≡ mission_words → decode v ≡ decode w → v ≡ w
decode_injective v w a b h = sym (encode_decode v a) ∙ ap encode h ∙ encode_decode w b
