-- A text is one function, or has one first fault, and never both.
use Rattle.std.proofs.Common.{◌≡◌, ◌<◌, ◌≤◌, ◌⊎◌, inl, inr, ℕ, zero, suc, Bool, true, false, ◌||◌, ◌&&◌, ◌==◌, List, [], ◌∷◌, ◌++◌, Option, Some, Contains, get_or, length, refl, ap, ap₂, sym, subst, ◌∙◌, arith}
use Rattle.nf_base.specs.Text.{Function}
use Rattle.nf_base.specs.declared.packet.Door.{Door}
use Rattle.nf_base.specs.declared.packet.Family.{Family}
use Rattle.nf_base.specs.declared.packet.Family.TheVariants.{Four, Six}
use Rattle.nf_tokens.specs.declared.token.Place.{Place}
use Rattle.nf_tokens.specs.Tokens.{tokens_of, start}
use Rattle.nf_tree.specs.Tree.{Tree, Handler}
use Rattle.nf_syntax.specs.Machine.{Accepted}
use Rattle.nf_syntax.specs.Language as syntax
use Rattle.nf_syntax.specs.Reads.{without_end}
use Rattle.nf_syntax.proofs.First.{spelled_run}
use Rattle.nf_syntax.proofs.OneFault.{one_fault, no_fault}
use Rattle.nf_types.specs.declared.fault.Fault as rules
use Rattle.nf_types.specs.declared.fault.TypingKind.{TypingKind}
use Rattle.nf_types.specs.Faults.{first, each_behind, length_faults}
use Rattle.nf_types.specs.Declarations.{objects_of, no_objects}
use Rattle.nf_types.specs.DeclarationFaults.{port_faults, declarations_faults}
use Rattle.nf_types.specs.Fields.{same_family}
use Rattle.nf_types.specs.Function.{function, is_at}
use Rattle.nf_types.specs.TextFaults.{is_handled, handler_faults, faults}
use Rattle.nf_types.specs.declared.objects.Objects.{Objects}
use Rattle.call_base.proofs.Handlers.{none_behind, none_if, or_false}
use Rattle.call_base.specs.declared.status.Fault.{Fault}
use Rattle.call_base.specs.declared.status.Fault.TheVariants as kinds
use Rattle.call_base.specs.Source.{path_count, IsFunctionOf, IsFunction, IsBefore, IsPastPaths, IsTreeFault, BreaksRule, IsFault, place_at}

abbrev with_end : Tree → Place → Tree
with_end t at = record { name = t.name; ports = t.ports; declarations = t.declarations; handlers = t.handlers; end = at }

same_accepted : (a b : Tree) → Accepted a ≡ Accepted b → a ≡ b
same_accepted a b h = cc

-- a text spells one tree
pub one_tree : (text : List ℕ) (a b : Tree) → syntax.IsTextOf text a → syntax.IsTextOf text b → a ≡ b
one_tree text a b s t =
    let ps = tokens_of 0 start text in
    let inside = same_accepted (without_end a) (without_end b) (sym (spelled_run ps a s.spelled.spelled) ∙ spelled_run ps b t.spelled.spelled) in
    ap (λ (x : Tree). with_end x a.end) inside ∙ ap (with_end b) (s.spelled.end ∙ sym t.spelled.end)

pub one_function : (text : List ℕ) (f g : Function) → IsFunction text f → IsFunction text g → f ≡ g
one_function text f g a b = sym a.of_tree.stands_for ∙ ap function (one_tree text a.tree b.tree a.spelled b.spelled) ∙ b.of_tree.stands_for

-- a tree that is a function has no fault
none_first : (t : Tree) (f : Function) (kind : Fault) (place : Place) → IsFunctionOf t f → IsTreeFault t kind place → ⊥
none_first t f (kinds.Syntax kind) place is fault = fault
none_first t f (kinds.Typing kind) place is fault = let none = ap first is.faultless in cc
none_first t f kinds.TooManyPaths place is fault =
    let few = subst (λ (g : Function). path_count g fault.door ≤ 4096) (sym is.stands_for) (is.few fault.door) in
    let past = fault.past.past in
    omega (arith, few, past)

apart_of : (text : List ℕ) (f : Function) (kind : Fault) (place : Place) → IsFunction text f → BreaksRule text kind place → ⊥
apart_of text f kind place is breaks =
    none_first breaks.tree f kind place (subst (λ (t : Tree). IsFunctionOf t f) (one_tree text is.tree breaks.tree is.spelled breaks.spelled) is.of_tree) breaks.fault

pub apart : (text : List ℕ) (f : Function) (kind : Fault) (line column : ℕ) → IsFunction text f → IsFault text kind line column → ⊥
apart text f (kinds.Syntax kind) line column is fault = no_fault kind (place_at line column) text is.tree is.spelled fault
apart text f (kinds.Typing kind) line column is fault = apart_of text f (kinds.Typing kind) (place_at line column) is fault
apart text f kinds.TooManyPaths line column is fault = apart_of text f kinds.TooManyPaths (place_at line column) is fault

order : (m n : ℕ) → (m < n) ⊎ ((m ≡ n) ⊎ (n < m))
order zero zero = inr (inl refl)
order zero (suc n) = inl (omega arith)
order (suc m) zero = inr (inr (omega arith))
order (suc m) (suc n) = elim (order m n) [
  | inl less ↦ inl (omega arith)
  | inr rest ↦ elim rest [
    | inl same ↦ inr (inl (ap suc same))
    | inr more ↦ inr (inr (omega arith))
  ]
]

-- of two handlers of one port one stands before the other, or they are one
families : (f g : Family) → ((f ≡ Four) × (g ≡ Six)) ⊎ ((f ≡ g) ⊎ ((g ≡ Four) × (f ≡ Six)))
families Four Four = inr (inl refl)
families Four Six = inl (refl, refl)
families Six Four = inr (inr (refl, refl))
families Six Six = inr (inl refl)

-- of two handlers one stands before the other, or they are one
doors : (p q : Door) → IsBefore p q ⊎ ((p ≡ q) ⊎ IsBefore q p)
doors p q = elim (order p.port q.port) [
  | inl less ↦ inl (inl less)
  | inr rest ↦ elim rest [
    | inl same ↦ elim (families p.family q.family) [
      | inl first ↦ inl (inr (same, first.0, first.1))
      | inr rest ↦ elim rest [
        | inl one ↦ inr (inl (ap₂ (λ (n : ℕ) (g : Family). door_at n g) same one))
        | inr later ↦ inr (inr (inr (sym same, later.0, later.1)))
      ]
    ]
    | inr more ↦ inr (inr (inl more))
  ]
]
  where
    door_at : ℕ → Family → Door
    door_at n g = record { port = n; family = g }

-- one handler is the first with too many paths
one_least : (f : Function) (p q : Door) → IsPastPaths f p → IsPastPaths f q → p ≡ q
one_least f p q a b = elim (doors p q) [
  | inl before ↦ (let few = b.least p before in let past = a.past in absurd (omega (arith, few, past)))
  | inr rest ↦ elim rest [
    | inl same ↦ same
    | inr behind ↦ (let few = a.least q behind in let past = b.past in absurd (omega (arith, few, past)))
  ]
]

has_none : (x : Handler) → Contains [] x → ⊥
has_none x h = let lt = h.1 in omega (arith, lt)

-- what stands in a list is its first, or stands behind it
has : (y : Handler) (xs : List Handler) (x : Handler) → Contains (y ∷ xs) x → (y ≡ x) ⊎ Contains xs x
has y xs x h = go h.0 h.1 h.2
  where
    go : (k : ℕ) → k < length (y ∷ xs) → get_or (y ∷ xs) k x ≡ x → (y ≡ x) ⊎ Contains xs x
    go zero lt at = inl at
    go (suc k) lt at = inr (k, omega arith, at)

nil_left : (xs ys : List rules.Fault) → xs ++ ys ≡ [] → xs ≡ []
nil_left [] ys e = refl
nil_left (x ∷ xs) ys e = cc

both_false : (a b : Bool) → a ≡ false → b ≡ false → (a || b) ≡ false
both_false true b h k = cc
both_false false b h k = k

handled_more : (p : ℕ) (g : Family) (xs : List Handler) (y : Handler) → is_handled p g (xs ++ y ∷ []) ≡ false → (is_handled p g xs ≡ false) × (is_at p g y ≡ false)
handled_more p g [] y e = (refl, (or_false (is_at p g y) false e).0)
handled_more p g (x ∷ xs) y e =
    let h = or_false (is_at p g x) (is_handled p g (xs ++ y ∷ [])) e in
    let k = handled_more p g xs y h.1 in
    (both_false (is_at p g x) (is_handled p g xs) h.0 k.0, k.1)

-- a faultless handler is the first of its port and family
is_first : (ports : ℕ) (o : Objects) (before : List Handler) (h : Handler) → handler_faults ports o before h ≡ [] → is_handled h.port.value h.family before ≡ false
unfolding handler_faults
is_first ports o before h e = none_if (is_handled h.port.value h.family before) _ _ (nil_left _ _ e)

-- no handler is of a port and family before it
not_before : (ports : ℕ) (o : Objects) (before hs : List Handler) → each_behind (handler_faults ports o) before hs ≡ [] → (b : Handler) → Contains hs b → is_handled b.port.value b.family before ≡ false
not_before ports o before [] e b c = absurd (has_none b c)
not_before ports o before (x ∷ xs) e b c = elim (has x xs b c) [
  | inl same ↦ subst (λ (h : Handler). is_handled h.port.value h.family before ≡ false) same (is_first ports o before x (nil_left (handler_faults ports o before x) _ e))
  | inr later ↦ (handled_more b.port.value b.family before x (not_before ports o (before ++ x ∷ []) xs (none_behind (handler_faults ports o before x) _ e) b later)).0
]

same_eq : (m n : ℕ) → m ≡ n → (m == n) ≡ true
same_eq m n e = subst (λ k. (m == k) ≡ true) e (eq_itself m)
  where
    eq_itself : (m : ℕ) → (m == m) ≡ true
    eq_itself m = grind arith

same_itself : (f g : Family) → f ≡ g → same_family f g ≡ true
same_itself Four Four e = refl
same_itself Four Six e = cc
same_itself Six Four e = cc
same_itself Six Six e = refl

both_true : (a b : Bool) → a ≡ true → b ≡ true → (a && b) ≡ true
both_true true b h k = k
both_true false b h k = cc

at_itself : (p : ℕ) (g : Family) (h : Handler) → h.port.value ≡ p → h.family ≡ g → is_at p g h ≡ false → ⊥
at_itself p g h same one e =
    let t = both_true (h.port.value == p) (same_family h.family g) (same_eq h.port.value p same) (same_itself h.family g one) in
    cc

-- handlers of one port and family are one
one_handler : (ports : ℕ) (o : Objects) (before hs : List Handler) → each_behind (handler_faults ports o) before hs ≡ [] → (a b : Handler) → Contains hs a → Contains hs b → a.port.value ≡ b.port.value → a.family ≡ b.family → a ≡ b
one_handler ports o before [] e a b c d same one = absurd (has_none a c)
one_handler ports o before (x ∷ xs) e a b c d same one = elim (has x xs a c) [
  | inl first_a ↦ elim (has x xs b d) [
    | inl first_b ↦ sym first_a ∙ first_b
    | inr later ↦ absurd (at_itself b.port.value b.family x (ap (λ (h : Handler). h.port.value) first_a ∙ same) (ap (λ (h : Handler). h.family) first_a ∙ one) (handled_more b.port.value b.family before x (not_before ports o (before ++ x ∷ []) xs rest b later)).1)
  ]
  | inr later_a ↦ elim (has x xs b d) [
    | inl first_b ↦ absurd (at_itself a.port.value a.family x (ap (λ (h : Handler). h.port.value) first_b ∙ sym same) (ap (λ (h : Handler). h.family) first_b ∙ sym one) (handled_more a.port.value a.family before x (not_before ports o (before ++ x ∷ []) xs rest a later_a)).1)
    | inr later ↦ one_handler ports o (before ++ x ∷ []) xs rest a b later_a later same one
  ]
]
  where
    rest : each_behind (handler_faults ports o) (before ++ x ∷ []) xs ≡ []
    rest = none_behind (handler_faults ports o before x) _ e

handlers_faultless : (t : Tree) → faults t ≡ [] → each_behind (handler_faults t.ports.value (objects_of t.declarations)) [] t.handlers ≡ []
handlers_faultless t e =
    nil_left (each_behind (handler_faults t.ports.value (objects_of t.declarations)) [] t.handlers) _
    (none_behind (declarations_faults no_objects t.declarations) _ (none_behind (port_faults t.ports) _ (none_behind (length_faults t.name) _ e)))

abbrev rule_at : TypingKind → Place → rules.Fault
rule_at kind place = record { kind = kind; place = place }

same_rule : (k l : TypingKind) (p q : Place) (o : Option rules.Fault) → o ≡ Some (rule_at k p) → o ≡ Some (rule_at l q) → (k ≡ l) × (p ≡ q)
same_rule k l p q o e h =
    let same = some_same (rule_at k p) (rule_at l q) (sym e ∙ h) in
    (ap (λ (x : rules.Fault). x.kind) same, ap (λ (x : rules.Fault). x.place) same)
  where
    some_same : (x y : rules.Fault) → Some x ≡ Some y → x ≡ y
    some_same x y e = cc

-- a tree has one first fault
one_tree_fault : (t : Tree) (kind other : Fault) (p q : Place) → IsTreeFault t kind p → IsTreeFault t other q → (kind ≡ other) × (p ≡ q)
one_tree_fault t (kinds.Syntax kind) other p q a b = absurd a
one_tree_fault t (kinds.Typing kind) (kinds.Syntax other) p q a b = absurd b
one_tree_fault t kinds.TooManyPaths (kinds.Syntax other) p q a b = absurd b
one_tree_fault t (kinds.Typing kind) (kinds.Typing other) p q a b =
    let same = same_rule kind other p q (first (faults t)) a b in
    (ap kinds.Typing same.0, same.1)
one_tree_fault t (kinds.Typing kind) kinds.TooManyPaths p q a b = let none = ap first b.faultless in cc
one_tree_fault t kinds.TooManyPaths (kinds.Typing other) p q a b = let none = ap first a.faultless in cc
one_tree_fault t kinds.TooManyPaths kinds.TooManyPaths p q a b =
    let door = one_least (function t) a.door b.door a.past b.past in
    let port = ap (λ (d : Door). d.port) door in
    let family = ap (λ (d : Door). d.family) door in
    let one = one_handler t.ports.value (objects_of t.declarations) [] t.handlers (handlers_faultless t a.faultless) a.at.handler b.at.handler a.at.among b.at.among (a.at.of_port ∙ port ∙ sym b.at.of_port) (a.at.of_family ∙ family ∙ sym b.at.of_family) in
    (refl, sym a.at.at ∙ ap (λ (h : Handler). h.place) one ∙ b.at.at)

one_rule : (text : List ℕ) (kind other : Fault) (p q : Place) → BreaksRule text kind p → BreaksRule text other q → (kind ≡ other) × (p ≡ q)
one_rule text kind other p q a b =
    one_tree_fault b.tree kind other p q (subst (λ (t : Tree). IsTreeFault t kind p) (one_tree text a.tree b.tree a.spelled b.spelled) a.fault) b.fault

places : (a b c d : ℕ) → place_at a b ≡ place_at c d → (a ≡ c) × (b ≡ d)
places a b c d e = (ap (λ (p : Place). p.line) e, ap (λ (p : Place). p.column) e)

placed : (kind other : Fault) (a b c d : ℕ) → (kind ≡ other) × (place_at a b ≡ place_at c d) → (kind ≡ other) × (a ≡ c) × (b ≡ d)
placed kind other a b c d h = let at = places a b c d h.1 in (h.0, at.0, at.1)

pub one_first : (text : List ℕ) (kind other : Fault) (a b c d : ℕ) → IsFault text kind a b → IsFault text other c d → (kind ≡ other) × (a ≡ c) × (b ≡ d)
one_first text (kinds.Syntax kind) (kinds.Syntax other) a b c d f g =
    let h = one_fault kind other (place_at a b) (place_at c d) text f g in
    let at = places a b c d h.1 in
    (ap kinds.Syntax h.0, at.0, at.1)
one_first text (kinds.Syntax kind) (kinds.Typing other) a b c d f g = absurd (no_fault kind (place_at a b) text g.tree g.spelled f)
one_first text (kinds.Syntax kind) kinds.TooManyPaths a b c d f g = absurd (no_fault kind (place_at a b) text g.tree g.spelled f)
one_first text (kinds.Typing kind) (kinds.Syntax other) a b c d f g = absurd (no_fault other (place_at c d) text f.tree f.spelled g)
one_first text kinds.TooManyPaths (kinds.Syntax other) a b c d f g = absurd (no_fault other (place_at c d) text f.tree f.spelled g)
one_first text (kinds.Typing kind) (kinds.Typing other) a b c d f g = placed (kinds.Typing kind) (kinds.Typing other) a b c d (one_rule text (kinds.Typing kind) (kinds.Typing other) (place_at a b) (place_at c d) f g)
one_first text (kinds.Typing kind) kinds.TooManyPaths a b c d f g = placed (kinds.Typing kind) kinds.TooManyPaths a b c d (one_rule text (kinds.Typing kind) kinds.TooManyPaths (place_at a b) (place_at c d) f g)
one_first text kinds.TooManyPaths (kinds.Typing other) a b c d f g = placed kinds.TooManyPaths (kinds.Typing other) a b c d (one_rule text kinds.TooManyPaths (kinds.Typing other) (place_at a b) (place_at c d) f g)
one_first text kinds.TooManyPaths kinds.TooManyPaths a b c d f g = placed kinds.TooManyPaths kinds.TooManyPaths a b c d (one_rule text kinds.TooManyPaths kinds.TooManyPaths (place_at a b) (place_at c d) f g)
