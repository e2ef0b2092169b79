-- Whether a statement writes an object, by the blocks in it and what stands behind it.
use Rattle.std.proofs.Common.{◌≡◌, ◌++◌, List, [], ◌∷◌, Bool, true, false, ◌||◌, ◌∙◌, refl, ap, map}
use Rattle.std.specs.List.{list_any, flat_map}
use Rattle.std.proofs.lemmas.List.Folds.{list_any-append}
use Rattle.nf_base.specs.declared.decl.ObjectId.{ObjectId}
use Rattle.nf_base.specs.declared.decl.ObjectId.TheVariants as object
use Rattle.nf_base.specs.Text.{Question, Creation, Block, Ask, Make}
use Rattle.nf_base.specs.Objects.{writes}
use Rattle.nf_base.specs.Statements.{Asks, Makes, statements}

-- a block writes
abbrev pub block_writes : ObjectId → Block → Bool
block_writes o b = list_any (writes o) (statements b)

-- a question writes nothing
asks_nothing : (o : ObjectId) (q : Question) → writes o (Asks q) ≡ false
asks_nothing (object.Chain chain) q = refl
asks_nothing (object.Array array) q = refl

pub asked : (o : ObjectId) (q : Question) (hit miss next : Block) → block_writes o (Ask q hit miss next) ≡ (block_writes o hit || (block_writes o miss || block_writes o next))
asked o q hit miss next =
    rw (asks_nothing o q, list_any-append (writes o) (statements hit) (statements miss ++ statements next), list_any-append (writes o) (statements miss) (statements next))

pub made : (o : ObjectId) (n : Creation) (made taken full next : Block) → block_writes o (Make n made taken full next) ≡ (writes o (Makes n) || (block_writes o made || (block_writes o taken || (block_writes o full || block_writes o next))))
made o n m t f next =
    rw (list_any-append (writes o) (statements m) (statements t ++ (statements f ++ statements next)), list_any-append (writes o) (statements t) (statements f ++ statements next), list_any-append (writes o) (statements f) (statements next))

pub any_map : {A B : Type 0} (p : B → Bool) (f : A → B) (xs : List A) → list_any p (map f xs) ≡ list_any (λ x. p (f x)) xs
any_map p f [] = refl
any_map p f (x ∷ xs) = ap (λ b. p (f x) || b) (any_map p f xs)

-- the handlers of a port
pub one_writes : (a b : Bool) → b ≡ a → b ≡ (a || false)
one_writes true b e = e
one_writes false b e = e

pub two_write : (a b c : Bool) → c ≡ (a || b) → c ≡ (a || (b || false))
two_write true b c e = e
two_write false true c e = e
two_write false false c e = e

pub any_flat : {A B : Type 0} (p : B → Bool) (f : A → List B) (xs : List A) → list_any p (flat_map f xs) ≡ list_any (λ x. list_any p (f x)) xs
any_flat p f [] = refl
any_flat p f (x ∷ xs) = list_any-append p (f x) (flat_map f xs) ∙ ap (λ b. list_any p (f x) || b) (any_flat p f xs)
