-- The history of an order, as the order grows.
use Rattle.std.proofs.Common.{◌≡◌, ℕ, zero, suc, List, [], ◌∷◌, ◌++◌, length, fold, refl, sym, ap, ◌∙◌, length-append, append_assoc, append-nil}
use mathlib.Core.List.{IsPrefix}
use Rattle.lock_core.specs.declared.call.Way.{Way}
use Rattle.lock_core.specs.declared.call.Way.TheVariants.{Look, Alone}
use Rattle.lock_core.specs.declared.call.Entry.{Entry}
use Rattle.lock_core.specs.declared.call.Ordered.{Ordered}
use Rattle.lock_core.specs.Calls.{by_way, entry_behind, with_packet, length_behind, at_next, put_behind}

-- the length of a history along an order
abbrev pub longer : ℕ → List Ordered → ℕ
longer n xs = fold (λ (k : ℕ) (x : Ordered). length_behind k x.way) n xs

-- a look leaves the history
pub left_by_look : (before : List Entry) (look : Ordered) → look.way ≡ Look → with_packet before look ≡ before
left_by_look before look e = ap (λ (w : Way). by_way w before (before ++ entry_behind before look ∷ [])) e

-- a packet that is handled alone is its next entry
pub grown_by_alone : (before : List Entry) (x : Ordered) → x.way ≡ Alone → with_packet before x ≡ before ++ entry_behind before x ∷ []
grown_by_alone before x e = ap (λ (w : Way). by_way w before (before ++ entry_behind before x ∷ [])) e

length_case : (w : Way) (before : List Entry) (e : Entry) → length (by_way w before (before ++ e ∷ [])) ≡ length_behind (length before) w
length_case Look before e = refl
length_case Alone before e = length-append before (e ∷ [])

pub length_is : (xs : List Ordered) (before : List Entry) → length (fold with_packet before xs) ≡ longer (length before) xs
length_is [] before = refl
length_is (x ∷ xs) before = length_is xs (with_packet before x) ∙ ap (λ (n : ℕ). longer n xs) (length_case x.way before (entry_behind before x))

put_case : (w : Way) (n : ℕ) (look x : Ordered) (xs : List Ordered) (before : List Entry) → look.way ≡ Look → ((m : ℕ) (b : List Entry) → fold with_packet b (put_behind m look xs) ≡ fold with_packet b xs)
    → fold with_packet before (by_way w (x ∷ put_behind n look xs) (at_next n (look ∷ x ∷ xs) (λ left. x ∷ put_behind left look xs))) ≡ fold with_packet before (x ∷ xs)
put_case Look n look x xs before e ih = ih n (with_packet before x)
put_case Alone zero look x xs before e ih = ap (λ (b : List Entry). fold with_packet (with_packet b x) xs) (left_by_look before look e)
put_case Alone (suc n) look x xs before e ih = ih n (with_packet before x)

-- a look that is put in leaves the history
pub history_put : (xs : List Ordered) (n : ℕ) (look : Ordered) (before : List Entry) → look.way ≡ Look → fold with_packet before (put_behind n look xs) ≡ fold with_packet before xs
history_put [] n look before e = left_by_look before look e
history_put (x ∷ xs) n look before e = put_case x.way n look x xs before e (λ m b. history_put xs m look b e)

prefix_case : (w : Way) (before : List Entry) (e : Entry) → IsPrefix before (by_way w before (before ++ e ∷ []))
prefix_case Look before e = ([], append-nil before)
prefix_case Alone before e = (e ∷ [], refl)

pub prefix_trans : {A : Type 0} (a b c : List A) → IsPrefix a b → IsPrefix b c → IsPrefix a c
prefix_trans a b c p q = (p.0 ++ q.0, sym (append_assoc a p.0 q.0) ∙ ap (λ (z : List _). z ++ q.0) p.1 ∙ q.1)

-- the history only grows
pub history_prefix : (xs : List Ordered) (before : List Entry) → IsPrefix before (fold with_packet before xs)
history_prefix [] before = ([], append-nil before)
history_prefix (x ∷ xs) before = prefix_trans before (with_packet before x) (fold with_packet (with_packet before x) xs) (prefix_case x.way before (entry_behind before x)) (history_prefix xs (with_packet before x))
