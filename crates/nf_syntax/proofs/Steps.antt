-- A token that a place goes on behind.
use Rattle.std.proofs.Common.{◌≡◌, false, ◌∙◌, ◌-◌, ◌≤◌, ◌<◌, ◌∷◌, ℕ, suc, Result, Ok, Err, List, [], length, take, drop, get_or, ap, sym, subst, arith}
use Rattle.std.proofs.lemmas.List.{take_all}
use Rattle.nf_tokens.specs.declared.token.Token.{Token}
use Rattle.nf_tokens.specs.declared.token.Token.TheVariants as tokens
use Rattle.nf_tokens.specs.declared.token.Placed.{Placed}
use Rattle.nf_tree.specs.Tree.{Given, Block}
use Rattle.nf_syntax.specs.declared.fault.TokenFault.{TokenFault}
use Rattle.nf_syntax.specs.Items.{item}
use Rattle.nf_syntax.specs.Statements.{Statement}
use Rattle.nf_syntax.specs.Machine.{Place, GivenAt, BodyAt, some_given_at, behind, Go, step, judged, run}
use Rattle.nf_syntax.specs.Reads.{Reads, ReadsOn, Begins, Fails}

-- a place with this row at the first token goes on behind it
pub gone_on : (at next : Place) (ps : List Placed) (p : Placed) (t : Token) → 1 ≤ length ps → p ≡ get_or ps 0 p → p.token ≡ t → step at (item t p.place) ≡ Go false next →
    run at ps ≡ run next (take (length ps - 1) (drop 1 ps))
gone_on at next [] p t one h e s = absurd (omega arith)
gone_on at next (q ∷ ps) p t one h e s =
    let all : take (suc (length ps) - 1) ps ≡ ps = take_all (suc (length ps) - 1) ps (omega arith) in
    let f : q.token ≡ t = sym (ap (λ x. x.token) h) ∙ e in
    ap (λ row. judged row q (λ n. run n ps)) (ap (λ x. step at (item x q.place)) f ∙ ap (λ x. step at (item t x.place)) (sym h) ∙ s) ∙ ap (run next) (sym all)

pub shorter_behind : (ps : List Placed) → 1 ≤ length ps → length (take (length ps - 1) (drop 1 ps)) < length ps
shorter_behind [] one = absurd (omega arith)
shorter_behind (p ∷ ps) one = let all : take (suc (length ps) - 1) ps ≡ ps = take_all (suc (length ps) - 1) ps (omega arith) in let e = ap length all in omega (arith, e)

-- what is read behind the first token is read from it on
pub reads_on : {X A : Type 0} → (wanted behind : (A → Place) → Place) (part : X → A) (rest : X → List Placed) (r : Result X TokenFault) (ps : List Placed) (p : Placed) (t : Token) →
    1 ≤ length ps → p ≡ get_or ps 0 p → p.token ≡ t → ((k : A → Place) → step (wanted k) (item t p.place) ≡ Go false (behind k)) →
    Reads behind part rest r (take (length ps - 1) (drop 1 ps)) → Reads wanted part rest r ps
reads_on wanted behind part rest (Ok x) ps p t one h e s r =
    (let l = r.0 in let b = shorter_behind ps one in omega (arith, l, b), λ k. gone_on (wanted k) (behind k) ps p t one h e (s k) ∙ r.1 k)
reads_on wanted behind part rest (Err f) ps p t one h e s r = λ k. subst (λ v. Fails f v) (sym (gone_on (wanted k) (behind k) ps p t one h e (s k))) (r k)

-- a statement is read behind the token that begins it
pub begins_on : {X : Type 0} → (at : (Statement → Place) → Place) (part : X → Statement) (rest : X → List Placed) (r : Result X TokenFault) (ps : List Placed) (p : Placed) (t : Token) →
    1 ≤ length ps → p ≡ get_or ps 0 p → p.token ≡ t → ((room : ℕ) (k : Block → Place) → step (BodyAt room k) (item t p.place) ≡ Go false (at (behind room k))) →
    Reads at part rest r (take (length ps - 1) (drop 1 ps)) → Begins part rest r ps
begins_on at part rest (Ok x) ps p t one h e s r =
    (let l = r.0 in let b = shorter_behind ps one in omega (arith, l, b), λ room k. gone_on (BodyAt room k) (at (behind room k)) ps p t one h e (s room k) ∙ r.1 (behind room k))
begins_on at part rest (Err f) ps p t one h e s r = λ room k. subst (λ v. Fails f v) (sym (gone_on (BodyAt room k) (at (behind room k)) ps p t one h e (s room k))) (r (behind room k))

-- what may be missing is read behind the token that begins it
pub reads_behind : {X A : Type 0} → (wanted behind : (A → Place) → Place) (part : X → A) (rest : X → List Placed) (r : Result X TokenFault) (ps : List Placed) (p : Placed) (t : Token) →
    1 ≤ length ps → p ≡ get_or ps 0 p → p.token ≡ t → ((k : A → Place) → step (wanted k) (item t p.place) ≡ Go false (behind k)) →
    Reads behind part rest r (take (length ps - 1) (drop 1 ps)) → ReadsOn wanted part rest r ps
reads_behind wanted behind part rest (Ok x) ps p t one h e s r =
    (let l = r.0 in let b = shorter_behind ps one in omega (arith, l, b), λ k. gone_on (wanted k) (behind k) ps p t one h e (s k) ∙ r.1 k)
reads_behind wanted behind part rest (Err f) ps p t one h e s r = λ k. subst (λ v. Fails f v) (sym (gone_on (wanted k) (behind k) ps p t one h e (s k))) (r k)

same_run : (k : List Given → Place) (ps : List Placed) (p : Placed) (x : List ℕ) → 1 ≤ length ps → p ≡ get_or ps 0 p → p.token ≡ tokens.Name x → run (GivenAt k) ps ≡ run (some_given_at k) ps
same_run k [] p x one h e = absurd (omega arith)
same_run k (q ∷ ps) p x one h e =
    let f : q.token ≡ tokens.Name x = sym (ap (λ y. y.token) h) ∙ e in
    ap (λ t. judged (step (GivenAt k) (item t q.place)) q (λ n. run n ps)) f ∙ sym (ap (λ t. judged (step (some_given_at k) (item t q.place)) q (λ n. run n ps)) f)

-- a name at the front of what is given
pub by_name : {X : Type 0} → (part : X → List Given) (rest : X → List Placed) (r : Result X TokenFault) (ps : List Placed) (p : Placed) (x : List ℕ) → 1 ≤ length ps → p ≡ get_or ps 0 p → p.token ≡ tokens.Name x →
    Reads some_given_at part rest r ps → ReadsOn (λ k. GivenAt k) part rest r ps
by_name part rest (Ok y) ps p x one h e r = (let l = r.0 in omega (arith, l), λ k. same_run k ps p x one h e ∙ r.1 k)
by_name part rest (Err s) ps p x one h e r = λ k. subst (λ v. Fails s v) (sym (same_run k ps p x one h e)) (r k)
