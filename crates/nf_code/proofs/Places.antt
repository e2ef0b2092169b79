-- Statements by place, in the order in which they were put.
use Rattle.std.proofs.Common.{rules, arith, ◌≡◌, ℕ, zero, suc, ◌<◌, ◌≤◌, List, [], ◌∷◌, ◌++◌, refl, ap, sym, ◌∙◌, length, reverse, Option, None, Some, nat_eq, get_or, if◌then◌else◌}
use Rattle.std.proofs.lemmas.Grind.{common_steps}
use Rattle.std.proofs.lemmas.List.{reverse-append}
use Rattle.nf_base.specs.Text.{Block}
use Rattle.nf_code.specs.declared.code.Op.{Op}
use Rattle.nf_code.specs.declared.code.Op.TheVariants as op
use Rattle.nf_code.specs.Code.{block_at, read_as, AreLow, IsBelow}

-- the statement at a place; the last one put stands first
abbrev pub op_at : List Op → ℕ → Option Op
op_at [] at = None
op_at (last ∷ older) at = if nat_eq at (length older) then Some last else op_at older at

longer : (l : List Op) (y : Op) → length (l ++ y ∷ []) ≡ suc (length l)
longer [] y = refl
longer (x ∷ l) y = ap suc (longer l y)

first : (l : List Op) (y : Op) → op_at (l ++ y ∷ []) 0 ≡ Some y
first [] y = refl
first (x ∷ l) y = grind (arith, common_steps, longer l y, first l y)

later : (l : List Op) (y : Op) (k : ℕ) → op_at (l ++ y ∷ []) (suc k) ≡ op_at l k
later [] y k = grind (arith, common_steps)
later (x ∷ l) y k = grind (arith, common_steps, longer l y, later l y k)

turned : (y : Op) (ys : List Op) → reverse (y ∷ ys) ≡ reverse ys ++ y ∷ []
turned y ys = reverse-append (y ∷ []) ys

-- the statement at a place is the one that was put there
pub in_order : (items : List Op) (k : ℕ) (d : Op) → k < length items → op_at (reverse items) k ≡ Some (get_or items k d)
in_order [] k d h = search rules
in_order (y ∷ ys) zero d h = rw (turned y ys) (first (reverse ys) y)
in_order (y ∷ ys) (suc k) d h = rw (turned y ys) (rw (later (reverse ys) y k) (in_order ys k d (omega arith)))

-- what may follow a statement stands below it
pub below : (code : List Op) (at : ℕ) (o : Op) → AreLow code → op_at code at ≡ Some o → IsBelow at o
below [] at o low h = search rules
below (last ∷ older) at o low h = grind (arith, common_steps, below older at o low.1)

inside : (code : List Op) (at : ℕ) (o : Op) → op_at code at ≡ Some o → at < length code
inside [] at o h = search rules
inside (last ∷ older) at o h = grind (arith, common_steps, inside older at o)

-- a statement reads the places below it alone
pub reads_below : (o : Op) (n : ℕ) (f g : ℕ → Block) → IsBelow n o → ((k : ℕ) → k < n → f k ≡ g k) → read_as o f ≡ read_as o g
reads_below op.Falls n f g h same = refl
reads_below (op.Forward port) n f g h same = refl
reads_below op.Flood n f g h same = refl
reads_below op.Discard n f g h same = refl
reads_below (op.Do o next) n f g h same = grind (arith, common_steps, same next h)
reads_below (op.Ask q hit miss) n f g h same = grind (arith, common_steps, same hit h.0, same miss h.1)
reads_below (op.Make m made taken full) n f g h same = grind (arith, common_steps, same made h.0, same taken h.1, same full h.2)

-- one statement more changes no lower place
pub one_more : (last : Op) (older : List Op) (k : ℕ) → k < length older → block_at (last ∷ older) k ≡ block_at older k
one_more last older k h = grind (arith, common_steps)

pub the_last : (last : Op) (older : List Op) (k : ℕ) → k ≡ length older → block_at (last ∷ older) k ≡ read_as last (block_at older)
the_last last older k h = grind (arith, common_steps)

still : (last : Op) (older : List Op) (o : Op) (n : ℕ) → n ≤ length older → IsBelow n o → read_as o (block_at older) ≡ read_as o (block_at (last ∷ older))
still last older o n short h = reads_below o n (block_at older) (block_at (last ∷ older)) h (λ k less. sym (one_more last older k (omega arith)))

-- a place stands for its statement, with what its places stand for
pub reads : (code : List Op) (at : ℕ) (o : Op) → AreLow code → op_at code at ≡ Some o → block_at code at ≡ read_as o (block_at code)
reads [] at o low h = search rules
reads (last ∷ older) at o low h =
    let found : op_at older at ≡ Some o → block_at older at ≡ read_as o (block_at (last ∷ older)) = λ e. (let less : at < length older = inside older at o e in reads older at o low.1 e ∙ still last older o at (omega arith) (below older at o low.1 e)) in
    let here : read_as last (block_at older) ≡ read_as last (block_at (last ∷ older)) = still last older last (length older) (omega arith) low.0 in
    grind (arith, common_steps, found, here, h)

pub under : (items : List Op) (k : ℕ) (d : Op) → AreLow (reverse items) → k < length items → IsBelow k (get_or items k d)
under items k d low h = below (reverse items) k (get_or items k d) low (in_order items k d h)

pub stands : (items : List Op) (k : ℕ) (d : Op) → AreLow (reverse items) → k < length items → block_at (reverse items) k ≡ read_as (get_or items k d) (block_at (reverse items))
stands items k d low h = reads (reverse items) k (get_or items k d) low (in_order items k d h)
