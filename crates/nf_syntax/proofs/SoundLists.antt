-- What goes through is spelled so: lists of values, given values, labels and numbers.
use Rattle.std.proofs.Common.{◌≡◌, ◌∙◌, ◌∷◌, ◌++◌, ◌<◌, ℕ, zero, suc, Bool, true, false, Some, List, [], length, refl, ap, sym, append_assoc, append-nil, arith}
use Rattle.nf_tokens.specs.declared.token.Sign.TheVariants as signs
use Rattle.nf_tree.specs.declared.place.Literal.{Literal}
use Rattle.nf_tree.specs.declared.tree.Label.{Label}
use Rattle.nf_tree.specs.Tree.{Tree, Expression, Given, Guards, Unguarded, Where}
use Rattle.nf_syntax.specs.Items.{Item, AName, ASign, AJoin, Marked, name, number, sign, word, join}
use Rattle.nf_syntax.specs.Expressions.{IsValue, value}
use Rattle.nf_syntax.specs.Grammar.{IsNotEmpty, AreValues, AreGiven, AreGuards, values, values_more, one_given, given, given_more, guards, labels, labels_more, numbers_more, contents}
use Rattle.nf_syntax.specs.Machine.{Place, NumberAt, SignAt, CloseAt, MoreAt, GivenAt, MoreGivenAt, MoreLabelsAt, MoreNumbersAt, ContentsAt, WhereAt, giving, label_one, value_at, one_given_at, some_given_at, one_label_at, values_at, labels_at, contents_at, guards_at}
use Rattle.nf_syntax.specs.Language.{Spells}
use Rattle.nf_syntax.proofs.Going.{goes}
use Rattle.nf_syntax.proofs.SoundTokens.{Good, mark, front, less, moved, good_name, good_number, good_sign, good_close}
use Rattle.nf_syntax.proofs.SoundExpressions.{good_value}

behind_comma : (s v : List Marked) (c : Marked) (one : List Marked) → s ++ (v ++ c ∷ one) ≡ ((s ++ v) ++ c ∷ []) ++ one
behind_comma s v c one = simp append_assoc

valued : (s v : List Marked) (x y : Marked) → s ++ x ∷ y ∷ v ≡ ((s ++ x ∷ []) ++ y ∷ []) ++ v
valued s v x y = simp append_assoc

three : (s : List Marked) (x y z : Marked) → s ++ x ∷ y ∷ z ∷ [] ≡ ((s ++ x ∷ []) ++ y ∷ []) ++ z ∷ []
three s x y z = simp append_assoc

abbrev one_label : Label → List Marked
one_label l = name l.name ∷ sign signs.Colon ∷ number l.width ∷ []

has_more : {A : Type 0} → (xs : List A) (x : A) → IsNotEmpty (xs ++ x ∷ [])
has_more [] x = tt
has_more (y ∷ xs) x = tt

more_values : (xs : List Expression) (x : Expression) → AreValues xs → IsValue x → AreValues (xs ++ x ∷ [])
more_values [] x g h = (h, tt)
more_values (y ∷ xs) x g h = (g.0, more_values xs x g.1 h)

more_of_given : (xs : List Given) (x : Given) → AreGiven xs → IsValue x.value → AreGiven (xs ++ x ∷ [])
more_of_given [] x g h = (h, tt)
more_of_given (y ∷ xs) x g h = (g.0, more_of_given xs x g.1 h)

good_one_given : (n : ℕ) (seen : List Marked) (k : Given → Place) → ((g : Given) → IsValue g.value → Good n (seen ++ one_given g) (k g)) → Good n seen (one_given_at k)
good_one_given n seen k f =
    good_name n seen (λ x. SignAt signs.Assign (value_at (λ v. k (giving x v)))) (λ x.
    let s1 = seen ++ name x ∷ [] in
    good_sign n s1 signs.Assign (value_at (λ v. k (giving x v))) (
    good_value n (s1 ++ sign signs.Assign ∷ []) (λ v. k (giving x v)) (λ v g.
    moved n (seen ++ one_given (giving x v)) ((s1 ++ sign signs.Assign ∷ []) ++ value v) (k (giving x v)) (valued seen (value v) (name x) (sign signs.Assign)) (f (giving x v) g))))

good_one_label : (n : ℕ) (seen : List Marked) (k : Label → Place) → ((l : Label) → Good n (seen ++ one_label l) (k l)) → Good n seen (one_label_at k)
good_one_label n seen k f =
    good_name n seen (λ x. SignAt signs.Colon (NumberAt (λ w. k (label_one x w)))) (λ x.
    let s1 = seen ++ name x ∷ [] in
    good_sign n s1 signs.Colon (NumberAt (λ w. k (label_one x w))) (
    good_number n (s1 ++ sign signs.Colon ∷ []) (λ w. k (label_one x w)) (λ w.
    moved n (seen ++ one_label (label_one x w)) ((s1 ++ sign signs.Colon ∷ []) ++ number w ∷ []) (k (label_one x w)) (three seen (name x) (sign signs.Colon) (number w)) (f (label_one x w)))))

snoc_more_values : (xs : List Expression) (x : Expression) → values_more (xs ++ x ∷ []) ≡ values_more xs ++ join signs.Comma ∷ value x
snoc_more_values [] x = ap (λ m. join signs.Comma ∷ m) (append-nil (value x))
snoc_more_values (y ∷ xs) x = ap (λ m. join signs.Comma ∷ (value y ++ m)) (snoc_more_values xs x)
    ∙ ap (λ m. join signs.Comma ∷ m) (sym (append_assoc (value y) (values_more xs) (join signs.Comma ∷ value x)))

snoc_values : (xs : List Expression) (x : Expression) → IsNotEmpty xs → values (xs ++ x ∷ []) ≡ values xs ++ join signs.Comma ∷ value x
snoc_values [] x h = absurd h
snoc_values (y ∷ xs) x h = ap (λ m. value y ++ m) (snoc_more_values xs x) ∙ sym (append_assoc (value y) (values_more xs) (join signs.Comma ∷ value x))

snoc_more_given : (xs : List Given) (x : Given) → given_more (xs ++ x ∷ []) ≡ given_more xs ++ join signs.Comma ∷ one_given x
snoc_more_given [] x = ap (λ m. join signs.Comma ∷ m) (append-nil (one_given x))
snoc_more_given (y ∷ xs) x = ap (λ m. join signs.Comma ∷ (one_given y ++ m)) (snoc_more_given xs x)
    ∙ ap (λ m. join signs.Comma ∷ m) (sym (append_assoc (one_given y) (given_more xs) (join signs.Comma ∷ one_given x)))

snoc_given : (xs : List Given) (x : Given) → IsNotEmpty xs → given (xs ++ x ∷ []) ≡ given xs ++ join signs.Comma ∷ one_given x
snoc_given [] x h = absurd h
snoc_given (y ∷ xs) x h = ap (λ m. one_given y ++ m) (snoc_more_given xs x) ∙ sym (append_assoc (one_given y) (given_more xs) (join signs.Comma ∷ one_given x))

snoc_more_labels : (xs : List Label) (x : Label) → labels_more (xs ++ x ∷ []) ≡ labels_more xs ++ join signs.Comma ∷ one_label x
snoc_more_labels [] x = refl
snoc_more_labels (y ∷ xs) x = ap (λ m. join signs.Comma ∷ name y.name ∷ sign signs.Colon ∷ number y.width ∷ m) (snoc_more_labels xs x)

snoc_labels : (xs : List Label) (x : Label) → IsNotEmpty xs → labels (xs ++ x ∷ []) ≡ labels xs ++ join signs.Comma ∷ one_label x
snoc_labels [] x h = absurd h
snoc_labels (y ∷ xs) x h = ap (λ m. name y.name ∷ sign signs.Colon ∷ number y.width ∷ m) (snoc_more_labels xs x)

-- numbers with commas between them
abbrev numbers : List Literal → List Marked
numbers [] = []
numbers (n ∷ ns) = number n ∷ numbers_more ns

snoc_more_numbers : (xs : List Literal) (x : Literal) → numbers_more (xs ++ x ∷ []) ≡ numbers_more xs ++ join signs.Comma ∷ number x ∷ []
snoc_more_numbers [] x = refl
snoc_more_numbers (y ∷ xs) x = ap (λ m. join signs.Comma ∷ number y ∷ m) (snoc_more_numbers xs x)

snoc_numbers : (xs : List Literal) (x : Literal) → IsNotEmpty xs → numbers (xs ++ x ∷ []) ≡ numbers xs ++ join signs.Comma ∷ number x ∷ []
snoc_numbers [] x h = absurd h
snoc_numbers (y ∷ xs) x h = ap (λ m. number y ∷ m) (snoc_more_numbers xs x)

-- a list, and what follows it
abbrev ValuesGood : ℕ → List Marked → (List Expression → Place) → Type 0
ValuesGood n seen k = (xs : List Expression) → IsNotEmpty xs → AreValues xs → Good n (seen ++ values xs) (k xs)

more_values_token : (n : ℕ) (seen : List Marked) (done : List Expression) (k : List Expression → Place) → Good (suc n) (seen ++ values done) (k done) → IsNotEmpty done →
    ((x : Expression) → IsValue x → Good n (seen ++ values (done ++ x ∷ [])) (MoreAt (done ++ x ∷ []) k)) →
    (t : Item) (past : Bool) (ms : List Marked) (tree : Tree) → length ms < n → goes (MoreAt done k) (mark t past ∷ ms) ≡ Some tree → Spells ((seen ++ values done) ++ mark t past ∷ ms) tree
more_values_token n seen done k end has again (AJoin signs.Comma) false ms tree few h =
    front n (seen ++ values done) (join signs.Comma) (value_at (λ x. MoreAt (done ++ x ∷ []) k))
    (good_value n ((seen ++ values done) ++ join signs.Comma ∷ []) (λ x. MoreAt (done ++ x ∷ []) k) (λ x gx.
    moved n (seen ++ values (done ++ x ∷ [])) (((seen ++ values done) ++ join signs.Comma ∷ []) ++ value x) (MoreAt (done ++ x ∷ []) k)
    (ap (λ m. seen ++ m) (snoc_values done x has) ∙ behind_comma seen (values done) (join signs.Comma) (value x)) (again x gx)))
    ms tree few h
more_values_token n seen done k end has again (AJoin signs.Comma) true ms tree few h = absurd cc
more_values_token n seen done k end has again t past ms tree few h = end (mark t past ∷ ms) tree (omega arith) h

good_more_values : (n : ℕ) (seen : List Marked) (done : List Expression) (k : List Expression → Place) → IsNotEmpty done → AreValues done → ValuesGood n seen k →
    (ms : List Marked) (tree : Tree) → length ms < n → goes (MoreAt done k) ms ≡ Some tree → Spells ((seen ++ values done) ++ ms) tree
good_more_values zero seen done k has are f ms tree few h = absurd (omega arith)
good_more_values (suc n) seen done k has are f [] tree few h = f done has are [] tree few h
good_more_values (suc n) seen done k has are f (m ∷ ms) tree few h =
    more_values_token n seen done k (f done has are) has
    (λ x gx. good_more_values n seen (done ++ x ∷ []) k (has_more done x) (more_values done x are gx) (λ xs hx hw. less n (seen ++ values xs) (k xs) (f xs hx hw)))
    m.item m.past ms tree (omega arith) h

pub good_values : (n : ℕ) (seen : List Marked) (k : List Expression → Place) → ValuesGood n seen k → Good n seen (values_at k)
good_values n seen k f = good_value n seen (λ v. MoreAt (v ∷ []) k) (λ v g.
    moved n (seen ++ values (v ∷ [])) (seen ++ value v) (MoreAt (v ∷ []) k) (ap (λ m. seen ++ m) (append-nil (value v))) (good_more_values n seen (v ∷ []) k tt (g, tt) f))

-- a list, and what follows it
abbrev GivenGood : ℕ → List Marked → (List Given → Place) → Type 0
GivenGood n seen k = (xs : List Given) → IsNotEmpty xs → AreGiven xs → Good n (seen ++ given xs) (k xs)

more_given_token : (n : ℕ) (seen : List Marked) (done : List Given) (k : List Given → Place) → Good (suc n) (seen ++ given done) (k done) → IsNotEmpty done →
    ((x : Given) → IsValue x.value → Good n (seen ++ given (done ++ x ∷ [])) (MoreGivenAt (done ++ x ∷ []) k)) →
    (t : Item) (past : Bool) (ms : List Marked) (tree : Tree) → length ms < n → goes (MoreGivenAt done k) (mark t past ∷ ms) ≡ Some tree → Spells ((seen ++ given done) ++ mark t past ∷ ms) tree
more_given_token n seen done k end has again (AJoin signs.Comma) false ms tree few h =
    front n (seen ++ given done) (join signs.Comma) (one_given_at (λ x. MoreGivenAt (done ++ x ∷ []) k))
    (good_one_given n ((seen ++ given done) ++ join signs.Comma ∷ []) (λ x. MoreGivenAt (done ++ x ∷ []) k) (λ x gx.
    moved n (seen ++ given (done ++ x ∷ [])) (((seen ++ given done) ++ join signs.Comma ∷ []) ++ one_given x) (MoreGivenAt (done ++ x ∷ []) k)
    (ap (λ m. seen ++ m) (snoc_given done x has) ∙ behind_comma seen (given done) (join signs.Comma) (one_given x)) (again x gx)))
    ms tree few h
more_given_token n seen done k end has again (AJoin signs.Comma) true ms tree few h = absurd cc
more_given_token n seen done k end has again t past ms tree few h = end (mark t past ∷ ms) tree (omega arith) h

good_more_given : (n : ℕ) (seen : List Marked) (done : List Given) (k : List Given → Place) → IsNotEmpty done → AreGiven done → GivenGood n seen k →
    (ms : List Marked) (tree : Tree) → length ms < n → goes (MoreGivenAt done k) ms ≡ Some tree → Spells ((seen ++ given done) ++ ms) tree
good_more_given zero seen done k has are f ms tree few h = absurd (omega arith)
good_more_given (suc n) seen done k has are f [] tree few h = f done has are [] tree few h
good_more_given (suc n) seen done k has are f (m ∷ ms) tree few h =
    more_given_token n seen done k (f done has are) has
    (λ x gx. good_more_given n seen (done ++ x ∷ []) k (has_more done x) (more_of_given done x are gx) (λ xs hx hw. less n (seen ++ given xs) (k xs) (f xs hx hw)))
    m.item m.past ms tree (omega arith) h

pub good_some_given : (n : ℕ) (seen : List Marked) (k : List Given → Place) → GivenGood n seen k → Good n seen (some_given_at k)
good_some_given n seen k f = good_one_given n seen (λ g. MoreGivenAt (g ∷ []) k) (λ x g.
    moved n (seen ++ given (x ∷ [])) (seen ++ one_given x) (MoreGivenAt (x ∷ []) k) (ap (λ m. seen ++ m) (append-nil (one_given x))) (good_more_given n seen (x ∷ []) k tt (g, tt) f))

given_token : (n : ℕ) (seen : List Marked) (k : List Given → Place) → Good (suc n) seen (k []) → Good (suc n) seen (some_given_at k) →
    (t : Item) (past : Bool) (ms : List Marked) (tree : Tree) → length ms < n → goes (GivenAt k) (mark t past ∷ ms) ≡ Some tree → Spells (seen ++ mark t past ∷ ms) tree
given_token n seen k none some (AName x) past ms tree few h = some (mark (AName x) past ∷ ms) tree (omega arith) h
given_token n seen k none some t past ms tree few h = none (mark t past ∷ ms) tree (omega arith) h

pub good_given : (n : ℕ) (seen : List Marked) (k : List Given → Place) → ((gs : List Given) → AreGiven gs → Good n (seen ++ given gs) (k gs)) →
    (ms : List Marked) (tree : Tree) → length ms < n → goes (GivenAt k) ms ≡ Some tree → Spells (seen ++ ms) tree
good_given zero seen k f ms tree few h = absurd (omega arith)
good_given (suc n) seen k f [] tree few h = moved (suc n) (seen ++ []) seen (k []) (append-nil seen) (f [] tt) [] tree few h
good_given (suc n) seen k f (m ∷ ms) tree few h =
    given_token n seen k (moved (suc n) (seen ++ []) seen (k []) (append-nil seen) (f [] tt)) (good_some_given (suc n) seen k (λ gs hg g. f gs g)) m.item m.past ms tree (omega arith) h

guarded : (s v : List Marked) (a b c : Marked) → s ++ a ∷ b ∷ (v ++ c ∷ []) ≡ (((s ++ a ∷ []) ++ b ∷ []) ++ v) ++ c ∷ []
guarded s v a b c = simp append_assoc

good_some_guards : (n : ℕ) (seen : List Marked) (k : Guards → Place) → ((gs : Guards) → AreGuards gs → Good n (seen ++ guards gs) (k gs)) → Good n (seen ++ join signs.Where ∷ []) (guards_at k)
good_some_guards n seen k f =
    let s1 = seen ++ join signs.Where ∷ [] in
    good_sign n s1 signs.OpenParenthesis (some_given_at (λ gs. CloseAt (λ p. k (Where gs p)))) (
    let s2 = s1 ++ sign signs.OpenParenthesis ∷ [] in
    good_some_given n s2 (λ gs. CloseAt (λ p. k (Where gs p))) (λ gs some are.
    let s3 = s2 ++ given gs in
    good_close n s3 (λ p. k (Where gs p)) (λ p.
    moved n (seen ++ guards (Where gs p)) (s3 ++ word signs.CloseParenthesis p ∷ []) (k (Where gs p))
    (guarded seen (given gs) (join signs.Where) (sign signs.OpenParenthesis) (word signs.CloseParenthesis p)) (f (Where gs p) (some, are)))))

where_token : (n : ℕ) (seen : List Marked) (k : Guards → Place) → Good n seen (k Unguarded) → Good n (seen ++ join signs.Where ∷ []) (guards_at k) →
    (t : Item) (past : Bool) (ms : List Marked) (tree : Tree) → length (mark t past ∷ ms) < n → goes (WhereAt k) (mark t past ∷ ms) ≡ Some tree → Spells (seen ++ mark t past ∷ ms) tree
where_token n seen k none some (AJoin signs.Where) false ms tree few h = front n seen (join signs.Where) (guards_at k) some ms tree (omega arith) h
where_token n seen k none some (AJoin signs.Where) true ms tree few h = absurd cc
where_token n seen k none some t past ms tree few h = none (mark t past ∷ ms) tree few h

pub good_guards : (n : ℕ) (seen : List Marked) (k : Guards → Place) → ((gs : Guards) → AreGuards gs → Good n (seen ++ guards gs) (k gs)) →
    (ms : List Marked) (tree : Tree) → length ms < n → goes (WhereAt k) ms ≡ Some tree → Spells (seen ++ ms) tree
good_guards n seen k f [] tree few h = moved n (seen ++ []) seen (k Unguarded) (append-nil seen) (f Unguarded tt) [] tree few h
good_guards n seen k f (m ∷ ms) tree few h =
    where_token n seen k (moved n (seen ++ []) seen (k Unguarded) (append-nil seen) (f Unguarded tt)) (good_some_guards n seen k f) m.item m.past ms tree few h

-- a list, and what follows it
abbrev LabelsGood : ℕ → List Marked → (List Label → Place) → Type 0
LabelsGood n seen k = (xs : List Label) → IsNotEmpty xs → Good n (seen ++ labels xs) (k xs)

more_labels_token : (n : ℕ) (seen : List Marked) (done : List Label) (k : List Label → Place) → Good (suc n) (seen ++ labels done) (k done) → IsNotEmpty done →
    ((x : Label) → Good n (seen ++ labels (done ++ x ∷ [])) (MoreLabelsAt (done ++ x ∷ []) k)) →
    (t : Item) (past : Bool) (ms : List Marked) (tree : Tree) → length ms < n → goes (MoreLabelsAt done k) (mark t past ∷ ms) ≡ Some tree → Spells ((seen ++ labels done) ++ mark t past ∷ ms) tree
more_labels_token n seen done k end has again (AJoin signs.Comma) false ms tree few h =
    front n (seen ++ labels done) (join signs.Comma) (one_label_at (λ x. MoreLabelsAt (done ++ x ∷ []) k))
    (good_one_label n ((seen ++ labels done) ++ join signs.Comma ∷ []) (λ x. MoreLabelsAt (done ++ x ∷ []) k) (λ x.
    moved n (seen ++ labels (done ++ x ∷ [])) (((seen ++ labels done) ++ join signs.Comma ∷ []) ++ one_label x) (MoreLabelsAt (done ++ x ∷ []) k)
    (ap (λ m. seen ++ m) (snoc_labels done x has) ∙ behind_comma seen (labels done) (join signs.Comma) (one_label x)) (again x)))
    ms tree few h
more_labels_token n seen done k end has again (AJoin signs.Comma) true ms tree few h = absurd cc
more_labels_token n seen done k end has again t past ms tree few h = end (mark t past ∷ ms) tree (omega arith) h

good_more_labels : (n : ℕ) (seen : List Marked) (done : List Label) (k : List Label → Place) → IsNotEmpty done → LabelsGood n seen k →
    (ms : List Marked) (tree : Tree) → length ms < n → goes (MoreLabelsAt done k) ms ≡ Some tree → Spells ((seen ++ labels done) ++ ms) tree
good_more_labels zero seen done k has f ms tree few h = absurd (omega arith)
good_more_labels (suc n) seen done k has f [] tree few h = f done has [] tree few h
good_more_labels (suc n) seen done k has f (m ∷ ms) tree few h =
    more_labels_token n seen done k (f done has) has
    (λ x. good_more_labels n seen (done ++ x ∷ []) k (has_more done x) (λ xs hx. less n (seen ++ labels xs) (k xs) (f xs hx)))
    m.item m.past ms tree (omega arith) h

pub good_labels : (n : ℕ) (seen : List Marked) (k : List Label → Place) → LabelsGood n seen k → Good n seen (labels_at k)
good_labels n seen k f = good_one_label n seen (λ l. MoreLabelsAt (l ∷ []) k) (λ l. good_more_labels n seen (l ∷ []) k tt f)

-- a list, and what follows it
abbrev NumbersGood : ℕ → List Marked → (List Literal → Place) → Type 0
NumbersGood n seen k = (xs : List Literal) → IsNotEmpty xs → Good n (seen ++ numbers xs) (k xs)

more_numbers_token : (n : ℕ) (seen : List Marked) (done : List Literal) (k : List Literal → Place) → Good (suc n) (seen ++ numbers done) (k done) → IsNotEmpty done →
    ((x : Literal) → Good n (seen ++ numbers (done ++ x ∷ [])) (MoreNumbersAt (done ++ x ∷ []) k)) →
    (t : Item) (past : Bool) (ms : List Marked) (tree : Tree) → length ms < n → goes (MoreNumbersAt done k) (mark t past ∷ ms) ≡ Some tree → Spells ((seen ++ numbers done) ++ mark t past ∷ ms) tree
more_numbers_token n seen done k end has again (AJoin signs.Comma) false ms tree few h =
    front n (seen ++ numbers done) (join signs.Comma) (NumberAt (λ x. MoreNumbersAt (done ++ x ∷ []) k))
    (good_number n ((seen ++ numbers done) ++ join signs.Comma ∷ []) (λ x. MoreNumbersAt (done ++ x ∷ []) k) (λ x.
    moved n (seen ++ numbers (done ++ x ∷ [])) (((seen ++ numbers done) ++ join signs.Comma ∷ []) ++ number x ∷ []) (MoreNumbersAt (done ++ x ∷ []) k)
    (ap (λ m. seen ++ m) (snoc_numbers done x has) ∙ behind_comma seen (numbers done) (join signs.Comma) (number x ∷ [])) (again x)))
    ms tree few h
more_numbers_token n seen done k end has again (AJoin signs.Comma) true ms tree few h = absurd cc
more_numbers_token n seen done k end has again t past ms tree few h = end (mark t past ∷ ms) tree (omega arith) h

good_more_numbers : (n : ℕ) (seen : List Marked) (done : List Literal) (k : List Literal → Place) → IsNotEmpty done → NumbersGood n seen k →
    (ms : List Marked) (tree : Tree) → length ms < n → goes (MoreNumbersAt done k) ms ≡ Some tree → Spells ((seen ++ numbers done) ++ ms) tree
good_more_numbers zero seen done k has f ms tree few h = absurd (omega arith)
good_more_numbers (suc n) seen done k has f [] tree few h = f done has [] tree few h
good_more_numbers (suc n) seen done k has f (m ∷ ms) tree few h =
    more_numbers_token n seen done k (f done has) has
    (λ x. good_more_numbers n seen (done ++ x ∷ []) k (has_more done x) (λ xs hx. less n (seen ++ numbers xs) (k xs) (f xs hx)))
    m.item m.past ms tree (omega arith) h

-- contents, and the `;` behind them
abbrev pub ContentsGood : ℕ → List Marked → (List Literal → Place) → Type 0
ContentsGood n seen k = (ns : List Literal) → Good n (seen ++ (contents ns ++ sign signs.Semicolon ∷ [])) (k ns)

contained : (s v : List Marked) (a b x c e : Marked) → s ++ ((a ∷ b ∷ x ∷ (v ++ c ∷ [])) ++ e ∷ []) ≡ ((((s ++ a ∷ []) ++ b ∷ []) ++ x ∷ v) ++ c ∷ []) ++ e ∷ []
contained s v a b x c e = simp append_assoc

contents_end : (n : ℕ) (seen : List Marked) (k : List Literal → Place) → ContentsGood n seen k → (ns : List Literal) → IsNotEmpty ns →
    Good n (((seen ++ sign signs.Assign ∷ []) ++ sign signs.OpenBrace ∷ []) ++ numbers ns) (SignAt signs.CloseBrace (SignAt signs.Semicolon (k ns)))
contents_end n seen k f [] some = absurd some
contents_end n seen k f (x ∷ ns) some =
    let s3 = ((seen ++ sign signs.Assign ∷ []) ++ sign signs.OpenBrace ∷ []) ++ numbers (x ∷ ns) in
    good_sign n s3 signs.CloseBrace (SignAt signs.Semicolon (k (x ∷ ns))) (
    good_sign n (s3 ++ sign signs.CloseBrace ∷ []) signs.Semicolon (k (x ∷ ns)) (
    moved n (seen ++ (contents (x ∷ ns) ++ sign signs.Semicolon ∷ [])) ((s3 ++ sign signs.CloseBrace ∷ []) ++ sign signs.Semicolon ∷ []) (k (x ∷ ns))
    (contained seen (numbers_more ns) (sign signs.Assign) (sign signs.OpenBrace) (number x) (sign signs.CloseBrace) (sign signs.Semicolon)) (f (x ∷ ns))))

good_some_contents : (n : ℕ) (seen : List Marked) (k : List Literal → Place) → ContentsGood n seen k → Good n (seen ++ sign signs.Assign ∷ []) (contents_at k)
good_some_contents n seen k f =
    let k1 = λ (ns : List Literal). SignAt signs.CloseBrace (SignAt signs.Semicolon (k ns)) in
    let s1 = seen ++ sign signs.Assign ∷ [] in
    let s2 = s1 ++ sign signs.OpenBrace ∷ [] in
    good_sign n s1 signs.OpenBrace (NumberAt (λ x. MoreNumbersAt (x ∷ []) k1)) (
    good_number n s2 (λ x. MoreNumbersAt (x ∷ []) k1) (λ x. good_more_numbers n s2 (x ∷ []) k1 tt (contents_end n seen k f)))

contents_token : (n : ℕ) (seen : List Marked) (k : List Literal → Place) → ContentsGood n seen k →
    (t : Item) (past : Bool) (ms : List Marked) (tree : Tree) → length ms < n → goes (ContentsAt k) (mark t past ∷ ms) ≡ Some tree → Spells (seen ++ mark t past ∷ ms) tree
contents_token n seen k f (ASign signs.Assign) false ms tree few h = front n seen (sign signs.Assign) (contents_at k) (good_some_contents n seen k f) ms tree few h
contents_token n seen k f (ASign signs.Semicolon) false ms tree few h = front n seen (sign signs.Semicolon) (k []) (f []) ms tree few h
contents_token n seen k f t past ms tree few h = absurd cc

pub good_contents : (n : ℕ) (seen : List Marked) (k : List Literal → Place) → ContentsGood n seen k →
    (ms : List Marked) (tree : Tree) → length ms < n → goes (ContentsAt k) ms ≡ Some tree → Spells (seen ++ ms) tree
good_contents n seen k f [] tree few h = absurd cc
good_contents n seen k f (m ∷ ms) tree few h = contents_token n seen k f m.item m.past ms tree (omega arith) h
