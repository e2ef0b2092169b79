-- What goes through is spelled so: single tokens.
use Rattle.std.proofs.Common.{◌≡◌, ◌∷◌, ◌++◌, ◌<◌, ℕ, suc, Bool, true, false, nat_eq, Option, Some, List, [], length, refl, ap, sym, subst, append_assoc, arith}
use Rattle.nf_base.specs.declared.expr.Comparison.{Comparison}
use Rattle.nf_base.specs.declared.expr.Comparison.TheVariants as comparisons
use Rattle.nf_tokens.specs.Signs.{number_of}
use Rattle.nf_tokens.specs.declared.token.Place as places
use Rattle.nf_tokens.specs.declared.token.Sign.{Sign}
use Rattle.nf_tokens.specs.declared.token.Sign.TheVariants as signs
use Rattle.nf_tree.specs.declared.place.Name.{Name}
use Rattle.nf_tree.specs.declared.place.Literal.{Literal}
use Rattle.nf_tree.specs.Tree.{Tree}
use Rattle.nf_syntax.specs.declared.head.SetHead.{SetHead}
use Rattle.nf_syntax.specs.Items.{Item, AName, ANumber, AField, ASign, AWord, Marked, name, number, field, sign, word}
use Rattle.nf_syntax.specs.Grammar.{comparing, comparison_of}
use Rattle.nf_syntax.specs.Machine.{Place, NameAt, NumberAt, FieldAt, SignAt, CloseAt, ComparisonAt, No, go_if, go_some}
use Rattle.nf_syntax.specs.Language.{Spells}
use Rattle.nf_syntax.proofs.Going.{goes, on_row, agree}
use Rattle.nf_syntax.proofs.SameSign.{same_sign}

-- behind `seen`, fewer than n tokens that go through from the place complete a text of the grammar
abbrev pub Good : ℕ → List Marked → Place → Type 0
Good n seen place = (ms : List Marked) (tree : Tree) → length ms < n → goes place ms ≡ Some tree → Spells (seen ++ ms) tree

abbrev pub mark : Item → Bool → Marked
mark i past = record { item = i; past = past }

pub front : (n : ℕ) (seen : List Marked) (m : Marked) (place : Place) → Good n (seen ++ m ∷ []) place →
    (ms : List Marked) (tree : Tree) → length ms < n → goes place ms ≡ Some tree → Spells (seen ++ m ∷ ms) tree
front n seen m place g ms tree few h = subst (λ x. Spells x tree) (append_assoc seen (m ∷ []) ms) (g ms tree few h)

pub less : (n : ℕ) (seen : List Marked) (place : Place) → Good (suc n) seen place → Good n seen place
less n seen place g = λ ms tree few h. g ms tree (omega arith) h

pub moved : (n : ℕ) (a b : List Marked) (place : Place) → a ≡ b → Good n a place → Good n b place
moved n a b place e g = subst (λ x. Good n x place) e g

-- what a token of a place has to show
abbrev pub AtToken : ℕ → List Marked → Place → Type 0
AtToken n seen place = (t : Item) (past : Bool) (ms : List Marked) (tree : Tree) → length ms < n → goes place (mark t past ∷ ms) ≡ Some tree → Spells (seen ++ mark t past ∷ ms) tree

name_token : (n : ℕ) (seen : List Marked) (k : Name → Place) → ((x : Name) → Good n (seen ++ name x ∷ []) (k x)) →
    (t : Item) (past : Bool) (ms : List Marked) (tree : Tree) → length ms < n → goes (NameAt k) (mark t past ∷ ms) ≡ Some tree → Spells (seen ++ mark t past ∷ ms) tree
name_token n seen k f (AName x) false ms tree few h = front n seen (name x) (k x) (f x) ms tree few h
name_token n seen k f t past ms tree few h = absurd cc

pub good_name : (n : ℕ) (seen : List Marked) (k : Name → Place) → ((x : Name) → Good n (seen ++ name x ∷ []) (k x)) →
    (ms : List Marked) (tree : Tree) → length ms < n → goes (NameAt k) ms ≡ Some tree → Spells (seen ++ ms) tree
good_name n seen k f [] tree few h = absurd cc
good_name n seen k f (m ∷ ms) tree few h = name_token n seen k f m.item m.past ms tree (omega arith) h

number_token : (n : ℕ) (seen : List Marked) (k : Literal → Place) → ((x : Literal) → Good n (seen ++ number x ∷ []) (k x)) →
    (t : Item) (past : Bool) (ms : List Marked) (tree : Tree) → length ms < n → goes (NumberAt k) (mark t past ∷ ms) ≡ Some tree → Spells (seen ++ mark t past ∷ ms) tree
number_token n seen k f (ANumber x) false ms tree few h = front n seen (number x) (k x) (f x) ms tree few h
number_token n seen k f t past ms tree few h = absurd cc

pub good_number : (n : ℕ) (seen : List Marked) (k : Literal → Place) → ((x : Literal) → Good n (seen ++ number x ∷ []) (k x)) →
    (ms : List Marked) (tree : Tree) → length ms < n → goes (NumberAt k) ms ≡ Some tree → Spells (seen ++ ms) tree
good_number n seen k f [] tree few h = absurd cc
good_number n seen k f (m ∷ ms) tree few h = number_token n seen k f m.item m.past ms tree (omega arith) h

field_token : (n : ℕ) (seen : List Marked) (k : SetHead → Place) → ((h : SetHead) → Good n (seen ++ field h.field h.place ∷ []) (k h)) →
    (t : Item) (past : Bool) (ms : List Marked) (tree : Tree) → length ms < n → goes (FieldAt k) (mark t past ∷ ms) ≡ Some tree → Spells (seen ++ mark t past ∷ ms) tree
field_token n seen k f (AField x at) false ms tree few h =
    let y : SetHead = record { field = x; place = at } in
    front n seen (field x at) (k y) (f y) ms tree few h
field_token n seen k f t past ms tree few h = absurd cc

pub good_field : (n : ℕ) (seen : List Marked) (k : SetHead → Place) → ((h : SetHead) → Good n (seen ++ field h.field h.place ∷ []) (k h)) →
    (ms : List Marked) (tree : Tree) → length ms < n → goes (FieldAt k) ms ≡ Some tree → Spells (seen ++ ms) tree
good_field n seen k f [] tree few h = absurd cc
good_field n seen k f (m ∷ ms) tree few h = field_token n seen k f m.item m.past ms tree (omega arith) h

sign_row : (n : ℕ) (seen : List Marked) (s t : Sign) (k : Place) (b past : Bool) (ms : List Marked) (tree : Tree) → (b ≡ true → t ≡ s) → Good n (seen ++ sign s ∷ []) k →
    length ms < n → on_row (go_if b k) past (λ next. goes next ms) ≡ Some tree → Spells (seen ++ mark (ASign t) past ∷ ms) tree
sign_row n seen s t k true false ms tree same g few h = front n seen (sign t) k (moved n (seen ++ sign s ∷ []) (seen ++ sign t ∷ []) k (ap (λ x. seen ++ sign x ∷ []) (sym (same refl))) g) ms tree few h
sign_row n seen s t k b past ms tree same g few h = absurd cc

sign_token : (n : ℕ) (seen : List Marked) (s : Sign) (k : Place) → Good n (seen ++ sign s ∷ []) k →
    (t : Item) (past : Bool) (ms : List Marked) (tree : Tree) → length ms < n → goes (SignAt s k) (mark t past ∷ ms) ≡ Some tree → Spells (seen ++ mark t past ∷ ms) tree
sign_token n seen s k g (ASign t) past ms tree few h = sign_row n seen s t k (nat_eq (number_of t) (number_of s)) past ms tree (same_sign s t) g few h
sign_token n seen s k g t past ms tree few h = absurd cc

pub good_sign : (n : ℕ) (seen : List Marked) (s : Sign) (k : Place) → Good n (seen ++ sign s ∷ []) k →
    (ms : List Marked) (tree : Tree) → length ms < n → goes (SignAt s k) ms ≡ Some tree → Spells (seen ++ ms) tree
good_sign n seen s k g [] tree few h = absurd cc
good_sign n seen s k g (m ∷ ms) tree few h = sign_token n seen s k g m.item m.past ms tree (omega arith) h

close_token : (n : ℕ) (seen : List Marked) (k : places.Place → Place) → ((at : places.Place) → Good n (seen ++ word signs.CloseParenthesis at ∷ []) (k at)) →
    (t : Item) (past : Bool) (ms : List Marked) (tree : Tree) → length ms < n → goes (CloseAt k) (mark t past ∷ ms) ≡ Some tree → Spells (seen ++ mark t past ∷ ms) tree
close_token n seen k f (AWord signs.CloseParenthesis at) false ms tree few h = front n seen (word signs.CloseParenthesis at) (k at) (f at) ms tree few h
close_token n seen k f t past ms tree few h = absurd cc

pub good_close : (n : ℕ) (seen : List Marked) (k : places.Place → Place) → ((at : places.Place) → Good n (seen ++ word signs.CloseParenthesis at ∷ []) (k at)) →
    (ms : List Marked) (tree : Tree) → length ms < n → goes (CloseAt k) ms ≡ Some tree → Spells (seen ++ ms) tree
good_close n seen k f [] tree few h = absurd cc
good_close n seen k f (m ∷ ms) tree few h = close_token n seen k f m.item m.past ms tree (omega arith) h

pub agreed : (a b : Bool) (o : Option Tree) (x : Tree) → agree a b o ≡ Some x → (a ≡ b) × (o ≡ Some x)
agreed true true o x h = (refl, h)
agreed false false o x h = (refl, h)
agreed true false o x h = absurd cc
agreed false true o x h = absurd cc

-- an item whose mark is that of its row
pub front_marked : (n : ℕ) (seen : List Marked) (i : Item) (limit past : Bool) (place : Place) → Good n (seen ++ mark i limit ∷ []) place →
    (ms : List Marked) (tree : Tree) → length ms < n → agree limit past (goes place ms) ≡ Some tree → Spells (seen ++ mark i past ∷ ms) tree
front_marked n seen i limit past place g ms tree few h =
    let a = agreed limit past (goes place ms) tree h in
    front n seen (mark i past) place (moved n (seen ++ mark i limit ∷ []) (seen ++ mark i past ∷ []) place (ap (λ x. seen ++ mark i x ∷ []) a.0) g) ms tree few a.1

pub same_some : {A : Type 0} → (x y : A) → Some x ≡ Some y → x ≡ y
same_some x y h = cc

compared : (s : Sign) (c : Comparison) → comparison_of s ≡ Some c → s ≡ comparing c
compared signs.Equal c h = ap comparing (same_some comparisons.Equal c h)
compared signs.NotEqual c h = ap comparing (same_some comparisons.NotEqual c h)
compared signs.Less c h = ap comparing (same_some comparisons.Less c h)
compared signs.LessOrEqual c h = ap comparing (same_some comparisons.LessOrEqual c h)
compared signs.Greater c h = ap comparing (same_some comparisons.Greater c h)
compared signs.GreaterOrEqual c h = ap comparing (same_some comparisons.GreaterOrEqual c h)
compared s c h = absurd cc

comparison_row : (n : ℕ) (seen : List Marked) (s : Sign) (k : Comparison → Place) (o : Option Comparison) (past : Bool) (ms : List Marked) (tree : Tree) →
    ((c : Comparison) → o ≡ Some c → s ≡ comparing c) → ((c : Comparison) → Good n (seen ++ sign (comparing c) ∷ []) (k c)) →
    length ms < n → on_row (go_some o k No) past (λ next. goes next ms) ≡ Some tree → Spells (seen ++ mark (ASign s) past ∷ ms) tree
comparison_row n seen s k (Some c) false ms tree same f few h =
    subst (λ x. Spells (seen ++ sign x ∷ ms) tree) (sym (same c refl)) (front n seen (sign (comparing c)) (k c) (f c) ms tree few h)
comparison_row n seen s k o past ms tree same f few h = absurd cc

comparison_token : (n : ℕ) (seen : List Marked) (k : Comparison → Place) → ((c : Comparison) → Good n (seen ++ sign (comparing c) ∷ []) (k c)) →
    (t : Item) (past : Bool) (ms : List Marked) (tree : Tree) → length ms < n → goes (ComparisonAt k) (mark t past ∷ ms) ≡ Some tree → Spells (seen ++ mark t past ∷ ms) tree
comparison_token n seen k f (ASign s) past ms tree few h = comparison_row n seen s k (comparison_of s) past ms tree (compared s) f few h
comparison_token n seen k f t past ms tree few h = absurd cc

pub good_comparison : (n : ℕ) (seen : List Marked) (k : Comparison → Place) → ((c : Comparison) → Good n (seen ++ sign (comparing c) ∷ []) (k c)) →
    (ms : List Marked) (tree : Tree) → length ms < n → goes (ComparisonAt k) ms ≡ Some tree → Spells (seen ++ ms) tree
good_comparison n seen k f [] tree few h = absurd cc
good_comparison n seen k f (m ∷ ms) tree few h = comparison_token n seen k f m.item m.past ms tree (omega arith) h
