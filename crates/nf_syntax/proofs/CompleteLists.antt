-- What lists of values, given values, labels and numbers are spelled like goes through, whatever follows.
use Rattle.std.proofs.Common.{◌≡◌, ◌∙◌, ◌∷◌, ◌++◌, List, [], refl, ap, sym, append_assoc, append-nil}
use Rattle.nf_tokens.specs.declared.token.Sign.TheVariants as signs
use Rattle.nf_tree.specs.declared.place.Literal.{Literal}
use Rattle.nf_tree.specs.declared.tree.Label.{Label}
use Rattle.nf_tree.specs.Tree.{Expression, Given, Guards, Unguarded, Where}
use Rattle.nf_syntax.specs.Items.{Marked, sign, word}
use Rattle.nf_syntax.specs.Expressions.{value}
use Rattle.nf_syntax.specs.Grammar.{IsNotEmpty, AreValues, AreGiven, AreGuards, values, values_more, given, given_more, guards, labels, labels_more, numbers_more, contents}
use Rattle.nf_syntax.specs.Machine.{Place, MoreAt, MoreGivenAt, MoreLabelsAt, MoreNumbersAt, ContentsAt, WhereAt, CloseAt, SignAt, value_at, values_at, giving, some_given_at, labels_at}
use Rattle.nf_syntax.proofs.Going.{goes, IsFirm, HasNoFactor, HasNoTerm, no_factor, no_term, skip_more, skip_more_given, skip_more_labels, skip_more_numbers, skip_where}
use Rattle.nf_syntax.proofs.CompleteExpressions.{one_value}

-- behind a value of a list stands a comma, or what follows the list
factor_of_values : (vs : List Expression) (w : List Marked) → IsFirm w → HasNoFactor (values_more vs ++ w)
factor_of_values [] w f = no_factor w f
factor_of_values (v ∷ vs) w f = refl

term_of_values : (vs : List Expression) (w : List Marked) → IsFirm w → HasNoTerm (values_more vs ++ w)
term_of_values [] w f = no_term w f
term_of_values (v ∷ vs) w f = refl

factor_of_given : (gs : List Given) (w : List Marked) → IsFirm w → HasNoFactor (given_more gs ++ w)
factor_of_given [] w f = no_factor w f
factor_of_given (g ∷ gs) w f = refl

term_of_given : (gs : List Given) (w : List Marked) → IsFirm w → HasNoTerm (given_more gs ++ w)
term_of_given [] w f = no_term w f
term_of_given (g ∷ gs) w f = refl

more : (vs done : List Expression) (k : List Expression → Place) (w : List Marked) → IsFirm w → AreValues vs → goes (MoreAt done k) (values_more vs ++ w) ≡ goes (k (done ++ vs)) w
more [] done k w f g = skip_more done k w f ∙ ap (λ x. goes (k x) w) (sym (append-nil done))
more (v ∷ vs) done k w f g =
    let k1 = λ (u : Expression). MoreAt (done ++ u ∷ []) k in
    ap (goes (value_at k1)) (append_assoc (value v) (values_more vs) w)
    ∙ one_value v g.0 k1 (values_more vs ++ w) (factor_of_values vs w f) (term_of_values vs w f)
    ∙ more vs (done ++ v ∷ []) k w f g.1 ∙ ap (λ x. goes (k x) w) (append_assoc done (v ∷ []) vs)

pub all_values : (vs : List Expression) (k : List Expression → Place) (w : List Marked) → IsFirm w → IsNotEmpty vs → AreValues vs → goes (values_at k) (values vs ++ w) ≡ goes (k vs) w
all_values [] k w f h g = absurd h
all_values (v ∷ vs) k w f h g =
    let k1 = λ (u : Expression). MoreAt (u ∷ []) k in
    ap (goes (value_at k1)) (append_assoc (value v) (values_more vs) w)
    ∙ one_value v g.0 k1 (values_more vs ++ w) (factor_of_values vs w f) (term_of_values vs w f) ∙ more vs (v ∷ []) k w f g.1

more_given : (gs done : List Given) (k : List Given → Place) (w : List Marked) → IsFirm w → AreGiven gs → goes (MoreGivenAt done k) (given_more gs ++ w) ≡ goes (k (done ++ gs)) w
more_given [] done k w f g = skip_more_given done k w f ∙ ap (λ x. goes (k x) w) (sym (append-nil done))
more_given (x ∷ gs) done k w f g =
    let k1 = λ (u : Expression). MoreGivenAt (done ++ giving x.name u ∷ []) k in
    ap (goes (value_at k1)) (append_assoc (value x.value) (given_more gs) w)
    ∙ one_value x.value g.0 k1 (given_more gs ++ w) (factor_of_given gs w f) (term_of_given gs w f)
    ∙ more_given gs (done ++ x ∷ []) k w f g.1 ∙ ap (λ y. goes (k y) w) (append_assoc done (x ∷ []) gs)

pub some_given : (gs : List Given) (k : List Given → Place) (w : List Marked) → IsFirm w → IsNotEmpty gs → AreGiven gs → goes (some_given_at k) (given gs ++ w) ≡ goes (k gs) w
some_given [] k w f h g = absurd h
some_given (x ∷ gs) k w f h g =
    let k1 = λ (u : Expression). MoreGivenAt (giving x.name u ∷ []) k in
    ap (goes (value_at k1)) (append_assoc (value x.value) (given_more gs) w)
    ∙ one_value x.value g.0 k1 (given_more gs ++ w) (factor_of_given gs w f) (term_of_given gs w f) ∙ more_given gs (x ∷ []) k w f g.1

pub all_guards : (gs : Guards) (k : Guards → Place) (w : List Marked) → IsFirm w → AreGuards gs → goes (WhereAt k) (guards gs ++ w) ≡ goes (k gs) w
all_guards Unguarded k w f g = skip_where k w f
all_guards (Where gs close) k w f g =
    let k1 = λ (xs : List Given). CloseAt (λ p. k (Where xs p)) in
    ap (goes (some_given_at k1)) (append_assoc (given gs) (word signs.CloseParenthesis close ∷ []) w)
    ∙ some_given gs k1 (word signs.CloseParenthesis close ∷ w) tt g.0 g.1

more_labels : (ls done : List Label) (k : List Label → Place) (w : List Marked) → IsFirm w → goes (MoreLabelsAt done k) (labels_more ls ++ w) ≡ goes (k (done ++ ls)) w
more_labels [] done k w f = skip_more_labels done k w f ∙ ap (λ x. goes (k x) w) (sym (append-nil done))
more_labels (l ∷ ls) done k w f = more_labels ls (done ++ l ∷ []) k w f ∙ ap (λ x. goes (k x) w) (append_assoc done (l ∷ []) ls)

pub all_labels : (ls : List Label) (k : List Label → Place) (w : List Marked) → IsFirm w → IsNotEmpty ls → goes (labels_at k) (labels ls ++ w) ≡ goes (k ls) w
all_labels [] k w f h = absurd h
all_labels (l ∷ ls) k w f h = more_labels ls (l ∷ []) k w f

more_numbers : (ns done : List Literal) (k : List Literal → Place) (w : List Marked) → IsFirm w → goes (MoreNumbersAt done k) (numbers_more ns ++ w) ≡ goes (k (done ++ ns)) w
more_numbers [] done k w f = skip_more_numbers done k w f ∙ ap (λ x. goes (k x) w) (sym (append-nil done))
more_numbers (n ∷ ns) done k w f = more_numbers ns (done ++ n ∷ []) k w f ∙ ap (λ x. goes (k x) w) (append_assoc done (n ∷ []) ns)

-- contents, and the `;` behind them
pub all_contents : (ns : List Literal) (k : List Literal → Place) (w : List Marked) → goes (ContentsAt k) ((contents ns ++ sign signs.Semicolon ∷ []) ++ w) ≡ goes (k ns) w
all_contents [] k w = refl
all_contents (n ∷ ns) k w =
    let k1 = λ (xs : List Literal). SignAt signs.CloseBrace (SignAt signs.Semicolon (k xs)) in
    let brace = sign signs.CloseBrace ∷ [] in
    let end = sign signs.Semicolon ∷ [] in
    ap (λ x. goes (MoreNumbersAt (n ∷ []) k1) x) (append_assoc (numbers_more ns ++ brace) end w ∙ append_assoc (numbers_more ns) brace (end ++ w))
    ∙ more_numbers ns (n ∷ []) k1 (sign signs.CloseBrace ∷ sign signs.Semicolon ∷ w) tt
