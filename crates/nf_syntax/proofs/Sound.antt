-- What goes through is spelled so: handlers and the whole text.
use Rattle.std.proofs.Common.{◌≡◌, ◌∙◌, ◌∷◌, ◌++◌, ◌<◌, ℕ, zero, suc, Bool, true, false, Some, List, [], length, ap, sym, subst, append_assoc, append-nil, arith}
use Rattle.nf_base.specs.declared.packet.Family.{Family}
use Rattle.nf_base.specs.declared.packet.Family.TheVariants as families
use Rattle.nf_tokens.specs.declared.token.Place as places
use Rattle.nf_tokens.specs.declared.token.Sign.TheVariants as signs
use Rattle.nf_tree.specs.declared.place.Name.{Name}
use Rattle.nf_tree.specs.declared.place.Literal.{Literal}
use Rattle.nf_tree.specs.Tree.{Tree, Block, Handler}
use Rattle.nf_syntax.specs.declared.head.TextHead.{TextHead}
use Rattle.nf_syntax.specs.Items.{Item, ASign, AWord, AJoin, Marked, name, number, sign, word, join}
use Rattle.nf_syntax.specs.Grammar.{Required, IsBlock, AreDeclarations, AreHandlers, braced, body, declarations, family, handlers, text_head, spelling}
use Rattle.nf_syntax.specs.Machine.{Place, TextEnd, NameAt, NumberAt, SignAt, BlockAt, DeclarationsAt, FamilyAt, HandlersAt, handler_at, handler_one, text_head_at, tree_one, whole}
use Rattle.nf_syntax.specs.Language.{Spells}
use Rattle.nf_syntax.proofs.Going.{goes}
use Rattle.nf_syntax.proofs.SoundTokens.{Good, mark, front, less, moved, good_name, good_number, good_sign}
use Rattle.nf_syntax.proofs.SoundBlocks.{Blocks, all_blocks}
use Rattle.nf_syntax.proofs.SoundDeclarations.{good_declarations}

family_token : (n : ℕ) (seen : List Marked) (k : Family → Place) → Good n seen (k families.Four) → Good n (seen ++ join signs.Six ∷ []) (k families.Six) →
    (t : Item) (past : Bool) (ms : List Marked) (tree : Tree) → length (mark t past ∷ ms) < n → goes (FamilyAt k) (mark t past ∷ ms) ≡ Some tree → Spells (seen ++ mark t past ∷ ms) tree
family_token n seen k four six (AJoin signs.Six) false ms tree few h = front n seen (join signs.Six) (k families.Six) six ms tree (omega arith) h
family_token n seen k four six (AJoin signs.Six) true ms tree few h = absurd cc
family_token n seen k four six t past ms tree few h = four (mark t past ∷ ms) tree few h

good_family : (n : ℕ) (seen : List Marked) (k : Family → Place) → ((x : Family) → Good n (seen ++ family x) (k x)) →
    (ms : List Marked) (tree : Tree) → length ms < n → goes (FamilyAt k) ms ≡ Some tree → Spells (seen ++ ms) tree
good_family n seen k f [] tree few h = moved n (seen ++ []) seen (k families.Four) (append-nil seen) (f families.Four) [] tree few h
good_family n seen k f (m ∷ ms) tree few h =
    family_token n seen k (moved n (seen ++ []) seen (k families.Four) (append-nil seen) (f families.Four)) (f families.Six) m.item m.past ms tree few h

-- a handler behind its word
abbrev one_handler : Literal → Family → Block → List Marked
one_handler p x b = number p ∷ (family x ++ braced 64 (body 63 b))

behind_port : (s : List Marked) (c : Marked) (w bs : List Marked) → s ++ c ∷ (w ++ bs) ≡ ((s ++ c ∷ []) ++ w) ++ bs
behind_port s c w bs = simp append_assoc

good_handler : (n : ℕ) (seen : List Marked) (at : places.Place) (k : Handler → Place) → Blocks n → ((p : Literal) (x : Family) (b : Block) → IsBlock Required b → Good n (seen ++ one_handler p x b) (k (handler_one at p x b))) → Good n seen (handler_at at k)
good_handler n seen at k blocks f =
    good_number n seen (λ p. FamilyAt (λ x. BlockAt 64 (λ b. k (handler_one at p x b)))) (λ p.
    good_family n (seen ++ number p ∷ []) (λ x. BlockAt 64 (λ b. k (handler_one at p x b))) (λ x.
    blocks 64 ((seen ++ number p ∷ []) ++ family x) (λ b. k (handler_one at p x b)) (λ b g.
    moved n (seen ++ one_handler p x b) (((seen ++ number p ∷ []) ++ family x) ++ braced 64 (body 63 b)) (k (handler_one at p x b))
    (behind_port seen (number p) (family x) (braced 64 (body 63 b))) (f p x b g))))

snoc_handlers : (hs : List Handler) (h : Handler) → handlers (hs ++ h ∷ []) ≡ handlers hs ++ word signs.On h.place ∷ one_handler h.port h.family h.block
snoc_handlers [] h = ap (λ x. word signs.On h.place ∷ number h.port ∷ x) (append-nil (family h.family ++ braced 64 (body 63 h.block)))
snoc_handlers (g ∷ hs) h = ap (λ x. word signs.On g.place ∷ one_handler g.port g.family g.block ++ x) (snoc_handlers hs h)
    ∙ ap (λ x. word signs.On g.place ∷ number g.port ∷ x) (sym (append_assoc (family g.family ++ braced 64 (body 63 g.block)) (handlers hs) (word signs.On h.place ∷ one_handler h.port h.family h.block)))

are_more : (hs : List Handler) (h : Handler) → AreHandlers hs → IsBlock Required h.block → AreHandlers (hs ++ h ∷ [])
are_more [] h g b = (b, tt)
are_more (x ∷ hs) h g b = (g.0, are_more hs h g.1 b)

abbrev HandlersGood : ℕ → List Marked → (List Handler → Place) → Type 0
HandlersGood n seen k = (hs : List Handler) → AreHandlers hs → Good n (seen ++ (handlers hs ++ sign signs.CloseBrace ∷ [])) (k hs)

behind_on : (s v : List Marked) (c : Marked) (one : List Marked) → s ++ (v ++ c ∷ one) ≡ ((s ++ v) ++ c ∷ []) ++ one
behind_on s v c one = simp append_assoc

handlers_token : (n : ℕ) (seen : List Marked) (done : List Handler) (k : List Handler → Place) → Blocks n → AreHandlers done → HandlersGood n seen k →
    ((h : Handler) → IsBlock Required h.block → Good n (seen ++ handlers (done ++ h ∷ [])) (HandlersAt (done ++ h ∷ []) k)) →
    (t : Item) (past : Bool) (ms : List Marked) (tree : Tree) → length ms < n → goes (HandlersAt done k) (mark t past ∷ ms) ≡ Some tree → Spells ((seen ++ handlers done) ++ mark t past ∷ ms) tree
handlers_token n seen done k blocks are f again (AWord signs.On at) false ms tree few h =
    front n (seen ++ handlers done) (word signs.On at) (handler_at at (λ x. HandlersAt (done ++ x ∷ []) k))
    (good_handler n ((seen ++ handlers done) ++ word signs.On at ∷ []) at (λ x. HandlersAt (done ++ x ∷ []) k) blocks (λ p y b g.
    let x = handler_one at p y b in
    moved n (seen ++ handlers (done ++ x ∷ [])) (((seen ++ handlers done) ++ word signs.On at ∷ []) ++ one_handler p y b) (HandlersAt (done ++ x ∷ []) k)
    (ap (λ m. seen ++ m) (snoc_handlers done x) ∙ behind_on seen (handlers done) (word signs.On at) (one_handler p y b)) (again x g)))
    ms tree few h
handlers_token n seen done k blocks are f again (ASign signs.CloseBrace) false ms tree few h =
    front n (seen ++ handlers done) (sign signs.CloseBrace) (k done) (moved n (seen ++ (handlers done ++ sign signs.CloseBrace ∷ [])) ((seen ++ handlers done) ++ sign signs.CloseBrace ∷ []) (k done)
    (sym (append_assoc seen (handlers done) (sign signs.CloseBrace ∷ []))) (f done are)) ms tree few h
handlers_token n seen done k blocks are f again t past ms tree few h = absurd cc

good_handlers : (n : ℕ) → ((m : ℕ) → Blocks m) → (seen : List Marked) (done : List Handler) (k : List Handler → Place) → AreHandlers done → HandlersGood n seen k →
    (ms : List Marked) (tree : Tree) → length ms < n → goes (HandlersAt done k) ms ≡ Some tree → Spells ((seen ++ handlers done) ++ ms) tree
good_handlers zero blocks seen done k are f ms tree few h = absurd (omega arith)
good_handlers (suc n) blocks seen done k are f [] tree few h = absurd cc
good_handlers (suc n) blocks seen done k are f (m ∷ ms) tree few h =
    handlers_token n seen done k (blocks n) are (λ hs g. less n (seen ++ (handlers hs ++ sign signs.CloseBrace ∷ [])) (k hs) (f hs g))
    (λ x b. good_handlers n blocks seen (done ++ x ∷ []) k (are_more done x are b) (λ hs g. less n (seen ++ (handlers hs ++ sign signs.CloseBrace ∷ [])) (k hs) (f hs g)))
    m.item m.past ms tree (omega arith) h

good_text_head : (n : ℕ) (k : TextHead → Place) → ((h : TextHead) → Good n (text_head h.name h.ports) (k h)) → Good n [] (text_head_at k)
good_text_head n k f =
    let k2 = λ (x : Name) (p : Literal). k (record { name = x; ports = p }) in
    good_sign n [] signs.Nf (NameAt (λ x. SignAt signs.OpenBrace (SignAt signs.Ports (NumberAt (λ p. SignAt signs.Semicolon (k2 x p)))))) (
    good_name n (sign signs.Nf ∷ []) (λ x. SignAt signs.OpenBrace (SignAt signs.Ports (NumberAt (λ p. SignAt signs.Semicolon (k2 x p))))) (λ x.
    good_sign n (sign signs.Nf ∷ name x ∷ []) signs.OpenBrace (SignAt signs.Ports (NumberAt (λ p. SignAt signs.Semicolon (k2 x p)))) (
    good_sign n (sign signs.Nf ∷ name x ∷ sign signs.OpenBrace ∷ []) signs.Ports (NumberAt (λ p. SignAt signs.Semicolon (k2 x p))) (
    good_number n (sign signs.Nf ∷ name x ∷ sign signs.OpenBrace ∷ sign signs.Ports ∷ []) (λ p. SignAt signs.Semicolon (k2 x p)) (λ p.
    good_sign n (sign signs.Nf ∷ name x ∷ sign signs.OpenBrace ∷ sign signs.Ports ∷ number p ∷ []) signs.Semicolon (k2 x p) (f (record { name = x; ports = p })))))))

end_good : (n : ℕ) (t : Tree) → AreDeclarations t.declarations → AreHandlers t.handlers → Good n (spelling t) (TextEnd t)
end_good n t gd gh [] tree few h =
    let e : t ≡ tree = cc in
    subst (λ x. Spells (spelling t ++ []) x) e (record { well_formed = (gd, gh); tokens = sym (append-nil (spelling t)) })
end_good n t gd gh (m ∷ ms) tree few h = absurd cc

pub sound : (ms : List Marked) (tree : Tree) → goes whole ms ≡ Some tree → Spells ms tree
sound ms tree h =
    let n = suc (length ms) in
    good_text_head n (λ h. DeclarationsAt [] (λ ds. HandlersAt [] (λ hs. TextEnd (tree_one h ds hs)))) (λ h.
    let s0 = text_head h.name h.ports in
    good_declarations n s0 (λ ds. HandlersAt [] (λ hs. TextEnd (tree_one h ds hs))) (λ ds gd.
    moved n ((s0 ++ declarations ds) ++ []) (s0 ++ declarations ds) (HandlersAt [] (λ hs. TextEnd (tree_one h ds hs))) (append-nil (s0 ++ declarations ds))
    (good_handlers n all_blocks (s0 ++ declarations ds) [] (λ hs. TextEnd (tree_one h ds hs)) tt (λ hs gh.
    moved n (spelling (tree_one h ds hs)) ((s0 ++ declarations ds) ++ (handlers hs ++ sign signs.CloseBrace ∷ [])) (TextEnd (tree_one h ds hs))
    (sym (append_assoc s0 (declarations ds) (handlers hs ++ sign signs.CloseBrace ∷ [])))
    (end_good n (tree_one h ds hs) gd gh))))) ms tree (omega arith) h
