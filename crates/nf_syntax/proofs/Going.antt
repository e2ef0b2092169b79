-- The table of what may come, over marked items.
use Rattle.std.proofs.Common.{◌≡◌, ◌∙◌, ◌∷◌, ℕ, Bool, true, false, Option, Some, None, List, [], refl, ap, nat_eq}
use Rattle.nf_base.specs.declared.packet.Family.{Family}
use Rattle.nf_base.specs.declared.packet.Family.TheVariants as families
use Rattle.nf_tokens.specs.Signs.{number_of}
use Rattle.nf_tokens.specs.declared.token.Placed.{Placed}
use Rattle.nf_tokens.specs.declared.token.Sign.{Sign}
use Rattle.nf_tokens.specs.declared.token.Sign.TheVariants as signs
use Rattle.nf_tree.specs.declared.place.Literal.{Literal}
use Rattle.nf_tree.specs.declared.tree.Label.{Label}
use Rattle.nf_tree.specs.declared.tree.Declaration.{Declaration}
use Rattle.nf_tree.specs.Tree.{Tree, Expression, Given, Guards, Unguarded, Block, End, Missing}
use Rattle.nf_syntax.specs.Items.{Item, AWord, AJoin, item, Marked, unmarked}
use Rattle.nf_syntax.specs.Expressions.{sum_operator, product_operator}
use Rattle.nf_syntax.specs.Machine.{Place, FactorsAt, TermsAt, MoreAt, MoreGivenAt, MoreLabelsAt, MoreNumbersAt, WhereAt, OptionalAt, BlockAt, DeclarationsAt, FamilyAt, factor_at, term_at, Row, Go, No, go_or, go_some, step, finished, ended, judged, run, Verdict, Accepted}

abbrev pub agree : Bool → Bool → Option Tree → Option Tree
agree true true o = o
agree false false o = o
agree a b o = None

pub agree_itself : (b : Bool) (o : Option Tree) → agree b b o ≡ o
agree_itself true o = refl
agree_itself false o = refl

abbrev pub on_row : Row → Bool → (Place → Option Tree) → Option Tree
on_row (Go past place) mark next = agree past mark (next place)
on_row No mark next = None

-- the tree of these items with these marks, where they have one
abbrev pub goes : Place → List Marked → Option Tree
goes place [] = finished place
goes place (m ∷ ms) = on_row (step place m.item) m.past (λ next. goes next ms)

-- an item that nothing which may be left out begins with
abbrev pub IsFirmItem : Item → Type 0
IsFirmItem (AJoin s) = ⊥
IsFirmItem (AWord signs.Chain at) = ⊥
IsFirmItem (AWord signs.Array at) = ⊥
IsFirmItem i = Unit {0}

abbrev pub IsFirm : List Marked → Type 0
IsFirm [] = Unit {0}
IsFirm (m ∷ ms) = IsFirmItem m.item

-- an item that is no operator of a product, and one that is none of a sum either
abbrev pub IsNoFactorItem : Item → Type 0
IsNoFactorItem (AJoin s) = product_operator s ≡ None
IsNoFactorItem i = Unit {0}

abbrev pub IsNoTermItem : Item → Type 0
IsNoTermItem (AJoin s) = sum_operator s ≡ None
IsNoTermItem i = Unit {0}

abbrev pub HasNoFactor : List Marked → Type 0
HasNoFactor [] = Unit {0}
HasNoFactor (m ∷ ms) = IsNoFactorItem m.item

abbrev pub HasNoTerm : List Marked → Type 0
HasNoTerm [] = Unit {0}
HasNoTerm (m ∷ ms) = IsNoTermItem m.item

no_factor_item : (i : Item) → IsFirmItem i → IsNoFactorItem i
no_factor_item (AJoin s) h = absurd h
no_factor_item i h = tt

no_term_item : (i : Item) → IsFirmItem i → IsNoTermItem i
no_term_item (AJoin s) h = absurd h
no_term_item i h = tt

pub no_factor : (ms : List Marked) → IsFirm ms → HasNoFactor ms
no_factor [] h = tt
no_factor (m ∷ ms) h = no_factor_item m.item h

pub no_term : (ms : List Marked) → IsFirm ms → HasNoTerm ms
no_term [] h = tt
no_term (m ∷ ms) h = no_term_item m.item h

-- another item than this word of an optional block, and items that do not begin with it
abbrev pub IsOther : Sign → Item → Type 0
IsOther s (AJoin t) = nat_eq (number_of t) (number_of s) ≡ false
IsOther s i = Unit {0}

abbrev pub Misses : Sign → List Marked → Type 0
Misses s [] = Unit {0}
Misses s (m ∷ ms) = IsOther s m.item

other : (s : Sign) (i : Item) → IsFirmItem i → IsOther s i
other s (AJoin t) h = absurd h
other s i h = tt

pub misses : (s : Sign) (ms : List Marked) → IsFirm ms → Misses s ms
misses s [] h = tt
misses s (m ∷ ms) h = other s m.item h

step_other : (s : Sign) (room : ℕ) (k : Block → Place) (i : Item) → IsOther s i → step (OptionalAt s room k) i ≡ step (k (End Missing)) i
step_other s room k (AJoin t) h = ap (λ b. go_or b (BlockAt room k) (step (k (End Missing)) (AJoin t))) h
step_other s room k i h = refl

step_more : (vs : List Expression) (k : List Expression → Place) (i : Item) → IsFirmItem i → step (MoreAt vs k) i ≡ step (k vs) i
step_more vs k (AJoin t) h = absurd h
step_more vs k i h = refl

step_more_given : (gs : List Given) (k : List Given → Place) (i : Item) → IsFirmItem i → step (MoreGivenAt gs k) i ≡ step (k gs) i
step_more_given gs k (AJoin t) h = absurd h
step_more_given gs k i h = refl

step_more_labels : (ls : List Label) (k : List Label → Place) (i : Item) → IsFirmItem i → step (MoreLabelsAt ls k) i ≡ step (k ls) i
step_more_labels ls k (AJoin t) h = absurd h
step_more_labels ls k i h = refl

step_more_numbers : (ns : List Literal) (k : List Literal → Place) (i : Item) → IsFirmItem i → step (MoreNumbersAt ns k) i ≡ step (k ns) i
step_more_numbers ns k (AJoin t) h = absurd h
step_more_numbers ns k i h = refl

step_factors : (room n : ℕ) (e : Expression) (k : Expression → Place) (i : Item) → IsNoFactorItem i → step (FactorsAt room n e k) i ≡ step (k e) i
step_factors room n e k (AJoin s) h = ap (λ o. go_some o (factor_at room n e k) (step (k e) (AJoin s))) h
step_factors room n e k i h = refl

step_terms : (room n : ℕ) (e : Expression) (k : Expression → Place) (i : Item) → IsNoTermItem i → step (TermsAt room n e k) i ≡ step (k e) i
step_terms room n e k (AJoin s) h = ap (λ o. go_some o (term_at room n e k) (step (k e) (AJoin s))) h
step_terms room n e k i h = refl

step_where : (k : Guards → Place) (i : Item) → IsFirmItem i → step (WhereAt k) i ≡ step (k Unguarded) i
step_where k (AJoin t) h = absurd h
step_where k i h = refl

step_family : (k : Family → Place) (i : Item) → IsFirmItem i → step (FamilyAt k) i ≡ step (k families.Four) i
step_family k (AJoin t) h = absurd h
step_family k i h = refl

step_declarations : (ds : List Declaration) (k : List Declaration → Place) (i : Item) → IsFirmItem i → step (DeclarationsAt ds k) i ≡ step (k ds) i
step_declarations ds k (AWord signs.Chain at) h = absurd h
step_declarations ds k (AWord signs.Array at) h = absurd h
step_declarations ds k i h = refl

-- two places that go on alike with this item
alike : (at by : Place) (m : Marked) (ms : List Marked) → step at m.item ≡ step by m.item → goes at (m ∷ ms) ≡ goes by (m ∷ ms)
alike at by m ms h = ap (λ row. on_row row m.past (λ next. goes next ms)) h

pub skip_optional : (s : Sign) (room : ℕ) (k : Block → Place) (ms : List Marked) → Misses s ms → goes (OptionalAt s room k) ms ≡ goes (k (End Missing)) ms
skip_optional s room k [] h = refl
skip_optional s room k (m ∷ ms) h = alike (OptionalAt s room k) (k (End Missing)) m ms (step_other s room k m.item h)

pub skip_more : (vs : List Expression) (k : List Expression → Place) (ms : List Marked) → IsFirm ms → goes (MoreAt vs k) ms ≡ goes (k vs) ms
skip_more vs k [] h = refl
skip_more vs k (m ∷ ms) h = alike (MoreAt vs k) (k vs) m ms (step_more vs k m.item h)

pub skip_more_given : (gs : List Given) (k : List Given → Place) (ms : List Marked) → IsFirm ms → goes (MoreGivenAt gs k) ms ≡ goes (k gs) ms
skip_more_given gs k [] h = refl
skip_more_given gs k (m ∷ ms) h = alike (MoreGivenAt gs k) (k gs) m ms (step_more_given gs k m.item h)

pub skip_more_labels : (ls : List Label) (k : List Label → Place) (ms : List Marked) → IsFirm ms → goes (MoreLabelsAt ls k) ms ≡ goes (k ls) ms
skip_more_labels ls k [] h = refl
skip_more_labels ls k (m ∷ ms) h = alike (MoreLabelsAt ls k) (k ls) m ms (step_more_labels ls k m.item h)

pub skip_more_numbers : (ns : List Literal) (k : List Literal → Place) (ms : List Marked) → IsFirm ms → goes (MoreNumbersAt ns k) ms ≡ goes (k ns) ms
skip_more_numbers ns k [] h = refl
skip_more_numbers ns k (m ∷ ms) h = alike (MoreNumbersAt ns k) (k ns) m ms (step_more_numbers ns k m.item h)

pub skip_factors : (room n : ℕ) (e : Expression) (k : Expression → Place) (ms : List Marked) → HasNoFactor ms → goes (FactorsAt room n e k) ms ≡ goes (k e) ms
skip_factors room n e k [] h = refl
skip_factors room n e k (m ∷ ms) h = alike (FactorsAt room n e k) (k e) m ms (step_factors room n e k m.item h)

pub skip_terms : (room n : ℕ) (e : Expression) (k : Expression → Place) (ms : List Marked) → HasNoTerm ms → goes (TermsAt room n e k) ms ≡ goes (k e) ms
skip_terms room n e k [] h = refl
skip_terms room n e k (m ∷ ms) h = alike (TermsAt room n e k) (k e) m ms (step_terms room n e k m.item h)

pub skip_where : (k : Guards → Place) (ms : List Marked) → IsFirm ms → goes (WhereAt k) ms ≡ goes (k Unguarded) ms
skip_where k [] h = refl
skip_where k (m ∷ ms) h = alike (WhereAt k) (k Unguarded) m ms (step_where k m.item h)

pub skip_family : (k : Family → Place) (ms : List Marked) → IsFirm ms → goes (FamilyAt k) ms ≡ goes (k families.Four) ms
skip_family k [] h = refl
skip_family k (m ∷ ms) h = alike (FamilyAt k) (k families.Four) m ms (step_family k m.item h)

pub skip_declarations : (ds : List Declaration) (k : List Declaration → Place) (ms : List Marked) → IsFirm ms → goes (DeclarationsAt ds k) ms ≡ goes (k ds) ms
skip_declarations ds k [] h = refl
skip_declarations ds k (m ∷ ms) h = alike (DeclarationsAt ds k) (k ds) m ms (step_declarations ds k m.item h)

pub goes_go : (place : Place) (i : Item) (past : Bool) (next : Place) (ms : List Marked) →
    step place i ≡ Go past next → goes place (record { item = i; past = past } ∷ ms) ≡ goes next ms
goes_go place i past next ms h = ap (λ row. on_row row past (λ n. goes n ms)) h ∙ agree_itself past (goes next ms)

pub goes_no : (place : Place) (i : Item) (past : Bool) (ms : List Marked) →
    step place i ≡ No → goes place (record { item = i; past = past } ∷ ms) ≡ None
goes_no place i past ms h = ap (λ row. on_row row past (λ n. goes n ms)) h

accepted_row : (row : Row) (p : Placed) (tree : Tree) (g : Place → Option Tree) (r : Place → Verdict) →
    ((place : Place) → g place ≡ Some tree → r place ≡ Accepted tree) →
    on_row row false g ≡ Some tree → judged row p r ≡ Accepted tree
accepted_row (Go true place) p tree g r f h = cc
accepted_row (Go false place) p tree g r f h = f place h
accepted_row No p tree g r f h = cc

-- what goes through without a mark is accepted
pub accepted : (place : Place) (ps : List Placed) (tree : Tree) → goes place (unmarked ps) ≡ Some tree → run place ps ≡ Accepted tree
accepted place [] tree h = ap ended h
accepted place (p ∷ ps) tree h = accepted_row (step place (item p.token p.place)) p tree (λ next. goes next (unmarked ps)) (λ next. run next ps)
    (λ next. accepted next ps tree) h

went_row : (row : Row) (p : Placed) (tree : Tree) (g : Place → Option Tree) (r : Place → Verdict) →
    ((place : Place) → r place ≡ Accepted tree → g place ≡ Some tree) →
    judged row p r ≡ Accepted tree → on_row row false g ≡ Some tree
went_row (Go true place) p tree g r f h = cc
went_row (Go false place) p tree g r f h = f place h
went_row No p tree g r f h = cc

went_end : (o : Option Tree) (tree : Tree) → ended o ≡ Accepted tree → o ≡ Some tree
went_end None tree h = cc
went_end (Some t) tree h = cc

-- what is accepted goes through without a mark
pub went : (place : Place) (ps : List Placed) (tree : Tree) → run place ps ≡ Accepted tree → goes place (unmarked ps) ≡ Some tree
went place [] tree h = went_end (finished place) tree h
went place (p ∷ ps) tree h = went_row (step place (item p.token p.place)) p tree (λ next. goes next (unmarked ps)) (λ next. run next ps)
    (λ next. went next ps tree) h
