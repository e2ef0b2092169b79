-- What goes through is spelled so: blocks and their statements.
use Rattle.std.proofs.Common.{◌≡◌, ◌∙◌, ◌∷◌, ◌++◌, ◌<◌, ◌-◌, ◌==◌, ℕ, zero, suc, Bool, true, false, nat_eq, Some, List, [], length, refl, ap, sym, subst, append_assoc, append-nil, arith}
use Rattle.nf_tokens.specs.Signs.{number_of}
use Rattle.nf_tokens.specs.declared.token.Sign.{Sign}
use Rattle.nf_tokens.specs.declared.token.Sign.TheVariants as signs
use Rattle.nf_tree.specs.Tree.{Tree, FallsOff, Missing, Flood, Discard, Forward, Block, End, Do, Ask, Make}
use Rattle.nf_syntax.specs.Items.{Item, AName, ASign, AWord, AJoin, Marked, name, sign, word, join, opening}
use Rattle.nf_syntax.specs.Grammar.{Required, Optional, IsBlock, braced, optional, operation, question, creation, body}
use Rattle.nf_syntax.specs.Statements.{Does, Asks, Makes, Ends}
use Rattle.nf_syntax.specs.Machine.{Place, BlockAt, BodyAt, WrittenAt, OptionalAt, go_or, step, behind, get_at, find_at, new_at, if_at, touch_at, free_at, set_at, forward_at, flood_at, discard_at}
use Rattle.nf_syntax.specs.Language.{Spells}
use Rattle.nf_syntax.proofs.Going.{goes, on_row}
use Rattle.nf_syntax.proofs.Complete.{written}
use Rattle.nf_syntax.proofs.SameSign.{same_sign}
use Rattle.nf_syntax.proofs.SoundTokens.{Good, mark, front, front_marked, less, moved}
use Rattle.nf_syntax.proofs.SoundStatements.{StatementGood, good_get, good_find, good_new, good_if, good_touch, good_free, good_set, good_written, good_forward, good_flood, good_discard}

-- how the tokens of a statement with blocks are grouped as they are read, and as they are spelled
asked : (s q h m b : List Marked) → s ++ (q ++ (h ++ (m ++ b))) ≡ (((s ++ q) ++ h) ++ m) ++ b
asked s q h m b = simp append_assoc

made : (s c m t f b : List Marked) → s ++ (c ++ (m ++ (t ++ (f ++ b)))) ≡ ((((s ++ c) ++ m) ++ t) ++ f) ++ b
made s c m t f b = simp append_assoc

-- blocks
abbrev pub BlockGood : ℕ → ℕ → List Marked → (Block → Place) → Type 0
BlockGood n room seen k = (c : Block) → IsBlock Required c → Good n (seen ++ braced room (body (room - 1) c)) (k c)

abbrev pub Blocks : ℕ → Type 0
Blocks n = (room : ℕ) (seen : List Marked) (k : Block → Place) → BlockGood n room seen k → Good n seen (BlockAt room k)

abbrev BodyGood : ℕ → ℕ → List Marked → (Block → Place) → Type 0
BodyGood n room seen k = (c : Block) → IsBlock Required c → Good n (seen ++ body room c) (k c)

abbrev Bodies : ℕ → Type 0
Bodies n = (room : ℕ) (seen : List Marked) (k : Block → Place) → BodyGood n room seen k → Good n seen (BodyAt room k)

is_optional : (b : Block) → IsBlock Required b → IsBlock Optional b
is_optional (End Missing) g = absurd g
is_optional (End FallsOff) g = g
is_optional (End (Forward v)) g = g
is_optional (End Flood) g = g
is_optional (End Discard) g = g
is_optional (Do o next) g = g
is_optional (Ask q hit miss next) g = g
is_optional (Make n made taken full next) g = g

abbrev OptionalGood : ℕ → Sign → ℕ → List Marked → (Block → Place) → Type 0
OptionalGood n o room seen k = (c : Block) → IsBlock Optional c → Good n (seen ++ optional o room c (body (room - 1) c)) (k c)

optional_row : (n : ℕ) (o : Sign) (room : ℕ) (seen : List Marked) (k : Block → Place) → Blocks n → OptionalGood n o room seen k → Good n seen (k (End Missing)) →
    (t : Sign) (b past : Bool) (ms : List Marked) (tree : Tree) → (b ≡ true → t ≡ o) → length (mark (AJoin t) past ∷ ms) < n →
    on_row (go_or b (BlockAt room k) (step (k (End Missing)) (AJoin t))) past (λ next. goes next ms) ≡ Some tree → Spells (seen ++ mark (AJoin t) past ∷ ms) tree
optional_row n o room seen k blocks f none t true false ms tree same few h =
    subst (λ s. Spells (seen ++ join s ∷ ms) tree) (sym (same refl))
    (front n seen (join o) (BlockAt room k) (blocks room (seen ++ join o ∷ []) k (λ c g.
    moved n (seen ++ optional o room c (body (room - 1) c)) ((seen ++ join o ∷ []) ++ braced room (body (room - 1) c)) (k c)
    (ap (λ x. seen ++ x) (written o room c (body (room - 1) c) g) ∙ sym (append_assoc seen (join o ∷ []) (braced room (body (room - 1) c)))) (f c (is_optional c g)))) ms tree (omega arith) h)
optional_row n o room seen k blocks f none t true true ms tree same few h = absurd cc
optional_row n o room seen k blocks f none t false past ms tree same few h = none (mark (AJoin t) past ∷ ms) tree few h

optional_token : (n : ℕ) (o : Sign) (room : ℕ) (seen : List Marked) (k : Block → Place) → Blocks n → OptionalGood n o room seen k → Good n seen (k (End Missing)) →
    (t : Item) (past : Bool) (ms : List Marked) (tree : Tree) → length (mark t past ∷ ms) < n → goes (OptionalAt o room k) (mark t past ∷ ms) ≡ Some tree → Spells (seen ++ mark t past ∷ ms) tree
optional_token n o room seen k blocks f none (AJoin t) past ms tree few h =
    optional_row n o room seen k blocks f none t (nat_eq (number_of t) (number_of o)) past ms tree (same_sign o t) few h
optional_token n o room seen k blocks f none t past ms tree few h = none (mark t past ∷ ms) tree few h

good_optional : (n : ℕ) (o : Sign) (room : ℕ) (seen : List Marked) (k : Block → Place) → Blocks n → OptionalGood n o room seen k →
    (ms : List Marked) (tree : Tree) → length ms < n → goes (OptionalAt o room k) ms ≡ Some tree → Spells (seen ++ ms) tree
good_optional n o room seen k blocks f [] tree few h = moved n (seen ++ []) seen (k (End Missing)) (append-nil seen) (f (End Missing) tt) [] tree few h
good_optional n o room seen k blocks f (m ∷ ms) tree few h =
    optional_token n o room seen k blocks f (moved n (seen ++ []) seen (k (End Missing)) (append-nil seen) (f (End Missing) tt)) m.item m.past ms tree few h

-- what stands behind a statement
good_behind : (n room : ℕ) (seen : List Marked) (k : Block → Place) → Blocks n → Bodies n → BodyGood n room seen k → StatementGood n seen (behind room k)
good_behind n room seen k blocks bodies f (Does o) g =
    bodies room (seen ++ operation o) (λ b. k (Do o b)) (λ b gb.
    moved n (seen ++ (operation o ++ body room b)) ((seen ++ operation o) ++ body room b) (k (Do o b))
    (sym (append_assoc seen (operation o) (body room b))) (f (Do o b) (g, gb)))
good_behind n room seen k blocks bodies f (Asks q) g =
    let s0 = seen ++ question q in
    blocks room s0 (λ h. OptionalAt signs.Else room (λ m. BodyAt room (λ b. k (Ask q h m b)))) (λ h gh.
    let hits = braced room (body (room - 1) h) in
    good_optional n signs.Else room (s0 ++ hits) (λ m. BodyAt room (λ b. k (Ask q h m b))) blocks (λ m gm.
    let missed = optional signs.Else room m (body (room - 1) m) in
    let s2 = (s0 ++ hits) ++ missed in
    bodies room s2 (λ b. k (Ask q h m b)) (λ b gb.
    moved n (seen ++ body room (Ask q h m b)) (s2 ++ body room b) (k (Ask q h m b))
    (asked seen (question q) hits missed (body room b)) (f (Ask q h m b) (g, gh, gm, gb)))))
good_behind n room seen k blocks bodies f (Makes c) g =
    let s0 = seen ++ creation c in
    blocks room s0 (λ m. OptionalAt signs.Taken room (λ t. OptionalAt signs.Full room (λ u. BodyAt room (λ b. k (Make c m t u b))))) (λ m gm.
    let makes = braced room (body (room - 1) m) in
    good_optional n signs.Taken room (s0 ++ makes) (λ t. OptionalAt signs.Full room (λ u. BodyAt room (λ b. k (Make c m t u b)))) blocks (λ t gt.
    let takes = optional signs.Taken room t (body (room - 1) t) in
    good_optional n signs.Full room ((s0 ++ makes) ++ takes) (λ u. BodyAt room (λ b. k (Make c m t u b))) blocks (λ u gu.
    let fills = optional signs.Full room u (body (room - 1) u) in
    let s3 = ((s0 ++ makes) ++ takes) ++ fills in
    bodies room s3 (λ b. k (Make c m t u b)) (λ b gb.
    moved n (seen ++ body room (Make c m t u b)) (s3 ++ body room b) (k (Make c m t u b))
    (made seen (creation c) makes takes fills (body room b)) (f (Make c m t u b) (g, gm, gt, gu, gb))))))
good_behind n room seen k blocks bodies f (Ends e) g = f (End e) g

body_token : (n room : ℕ) (seen : List Marked) (k : Block → Place) → StatementGood n seen (behind room k) →
    (t : Item) (past : Bool) (ms : List Marked) (tree : Tree) → length ms < n → goes (BodyAt room k) (mark t past ∷ ms) ≡ Some tree → Spells (seen ++ mark t past ∷ ms) tree
body_token n room seen k f (AWord signs.Get at) false ms tree few h = front n seen (word signs.Get at) (get_at at (behind room k)) (good_get n seen at (behind room k) f) ms tree few h
body_token n room seen k f (AWord signs.New at) false ms tree few h = front n seen (word signs.New at) (new_at at (behind room k)) (good_new n seen at (behind room k) f) ms tree few h
body_token n room seen k f (AWord signs.Find at) false ms tree few h = front n seen (word signs.Find at) (find_at at (behind room k)) (good_find n seen at (behind room k) f) ms tree few h
body_token n room seen k f (AWord signs.Free at) false ms tree few h = front n seen (word signs.Free at) (free_at at (behind room k)) (good_free n seen at (behind room k) f) ms tree few h
body_token n room seen k f (ASign signs.If) false ms tree few h = front n seen (sign signs.If) (if_at (behind room k)) (good_if n seen (behind room k) f) ms tree few h
body_token n room seen k f (ASign signs.Set) false ms tree few h = front n seen (sign signs.Set) (set_at (behind room k)) (good_set n seen (behind room k) f) ms tree few h
body_token n room seen k f (AName x) false ms tree few h = front n seen (name x) (WrittenAt x (behind room k)) (good_written n seen x (behind room k) f) ms tree few h
body_token n room seen k f (ASign signs.Flood) false ms tree few h = front n seen (sign signs.Flood) (flood_at (behind room k)) (good_flood n seen (behind room k) f) ms tree few h
body_token n room seen k f (ASign signs.Touch) false ms tree few h = front n seen (sign signs.Touch) (touch_at (behind room k)) (good_touch n seen (behind room k) f) ms tree few h
body_token n room seen k f (ASign signs.Forward) false ms tree few h = front n seen (sign signs.Forward) (forward_at (behind room k)) (good_forward n seen (behind room k) f) ms tree few h
body_token n room seen k f (ASign signs.Discard) false ms tree few h = front n seen (sign signs.Discard) (discard_at (behind room k)) (good_discard n seen (behind room k) f) ms tree few h
body_token n room seen k f (ASign signs.CloseBrace) false ms tree few h = front n seen (sign signs.CloseBrace) (k (End FallsOff)) (f (Ends FallsOff) tt) ms tree few h
body_token n room seen k f t past ms tree few h = absurd cc

block_token : (n room : ℕ) (seen : List Marked) (k : Block → Place) → Bodies n → BlockGood n room seen k →
    (t : Item) (past : Bool) (ms : List Marked) (tree : Tree) → length ms < n → goes (BlockAt room k) (mark t past ∷ ms) ≡ Some tree → Spells (seen ++ mark t past ∷ ms) tree
block_token n room seen k bodies f (ASign signs.OpenBrace) past ms tree few h =
    let brace = opening signs.OpenBrace room ∷ [] in
    front_marked n seen (ASign signs.OpenBrace) (room == 0) past (BodyAt (room - 1) k)
    (bodies (room - 1) (seen ++ brace) k (λ c g.
    moved n (seen ++ braced room (body (room - 1) c)) ((seen ++ brace) ++ body (room - 1) c) (k c)
    (sym (append_assoc seen brace (body (room - 1) c))) (f c g)))
    ms tree few h
block_token n room seen k bodies f t past ms tree few h = absurd cc

record Both (n : ℕ) : Type 0 where
  blocks : Blocks n
  bodies : Bodies n

blocks_next : (n : ℕ) → Bodies n → (room : ℕ) (seen : List Marked) (k : Block → Place) → BlockGood (suc n) room seen k →
    (ms : List Marked) (tree : Tree) → length ms < suc n → goes (BlockAt room k) ms ≡ Some tree → Spells (seen ++ ms) tree
blocks_next n bodies room seen k f [] tree few h = absurd cc
blocks_next n bodies room seen k f (m ∷ ms) tree few h =
    block_token n room seen k bodies (λ c g. less n (seen ++ braced room (body (room - 1) c)) (k c) (f c g)) m.item m.past ms tree (omega arith) h

bodies_next : (n : ℕ) → Blocks n → Bodies n → (room : ℕ) (seen : List Marked) (k : Block → Place) → BodyGood (suc n) room seen k →
    (ms : List Marked) (tree : Tree) → length ms < suc n → goes (BodyAt room k) ms ≡ Some tree → Spells (seen ++ ms) tree
bodies_next n blocks bodies room seen k f [] tree few h = absurd cc
bodies_next n blocks bodies room seen k f (m ∷ ms) tree few h =
    body_token n room seen k (good_behind n room seen k blocks bodies (λ c g. less n (seen ++ body room c) (k c) (f c g))) m.item m.past ms tree (omega arith) h

both : (n : ℕ) → Both n
both zero = record { blocks = λ room seen k f ms tree few h. absurd (omega arith); bodies = λ room seen k f ms tree few h. absurd (omega arith) }
both (suc n) = let i = both n in record { blocks = blocks_next n i.bodies; bodies = bodies_next n i.blocks i.bodies }

pub all_blocks : (n : ℕ) → Blocks n
all_blocks n = (both n).blocks
