-- What a block is spelled like goes through, whatever follows.
use Rattle.std.proofs.Common.{◌≡◌, ◌∙◌, ◌∷◌, ◌++◌, ◌-◌, ℕ, ◌==◌, false, List, [], refl, ap, append_assoc, eq-eqb}
use Rattle.nf_base.specs.declared.expr.Comparison.{Comparison}
use Rattle.nf_base.specs.declared.expr.Comparison.TheVariants as comparisons
use Rattle.nf_tokens.specs.Signs.{number_of}
use Rattle.nf_tokens.specs.declared.token.Place as places
use Rattle.nf_tokens.specs.declared.token.Sign.{Sign}
use Rattle.nf_tokens.specs.declared.token.Sign.TheVariants as signs
use Rattle.nf_tree.specs.Tree.{Expression, Given, Guards, Ending, FallsOff, Missing, Flood, Discard, Forward, Operation, Touch, Free, Set, Write, Store, Question, Get, Find, Test, Creation, Block, End, Do, Ask, Make}
use Rattle.nf_syntax.specs.Items.{AJoin, Marked, sign, word, join}
use Rattle.nf_syntax.specs.Expressions.{value}
use Rattle.nf_syntax.specs.Grammar.{Presence, Required, Optional, IsEnding, IsOperation, IsQuestion, IsCreation, IsBlock, AreGiven, values, given, guards, braced, optional, operation, question, creation, ending, body, comparing}
use Rattle.nf_syntax.specs.Statements.{Does, Asks, Makes, Ends}
use Rattle.nf_syntax.specs.Machine.{Place, GivenAt, WhereAt, CloseAt, ComparisonAt, BlockAt, BodyAt, OptionalAt, SignAt, go_or, step, behind, creation_one, value_at, values_at, get_at, find_at, new_at, if_at, forward_at}
use Rattle.nf_syntax.proofs.Going.{goes, on_row, IsFirm, Misses, misses, no_factor, no_term, skip_optional, agree_itself}
use Rattle.nf_syntax.proofs.CompleteExpressions.{one_value}
use Rattle.nf_syntax.proofs.CompleteLists.{all_values, some_given, all_guards}

-- what a statement says
did : (o : Operation) → IsOperation o → (room : ℕ) (k : Block → Place) (w : List Marked) → goes (BodyAt room k) (operation o ++ w) ≡ goes (behind room k (Does o)) w
did (Touch x) g room k w = refl
did (Free at x) g room k w = refl
did (Set f at v) g room k w =
    let k1 = λ (u : Expression). SignAt signs.Semicolon (behind room k (Does (Set f at u))) in
    ap (goes (value_at k1)) (append_assoc (value v) (sign signs.Semicolon ∷ []) w) ∙ one_value v g k1 (sign signs.Semicolon ∷ w) tt tt
did (Write x c v) g room k w =
    let k1 = λ (u : Expression). SignAt signs.Semicolon (behind room k (Does (Write x c u))) in
    ap (goes (value_at k1)) (append_assoc (value v) (sign signs.Semicolon ∷ []) w) ∙ one_value v g k1 (sign signs.Semicolon ∷ w) tt tt
did (Store x i v) g room k w =
    let end = sign signs.Semicolon ∷ [] in
    let tail = sign signs.CloseBracket ∷ sign signs.Assign ∷ (value v ++ end) in
    let k0 = λ (j : Expression). SignAt signs.CloseBracket (SignAt signs.Assign (value_at (λ u. SignAt signs.Semicolon (behind room k (Does (Store x j u)))))) in
    let k1 = λ (u : Expression). SignAt signs.Semicolon (behind room k (Does (Store x i u))) in
    ap (goes (value_at k0)) (append_assoc (value i) tail w)
    ∙ one_value i g.0 k0 (tail ++ w) tt tt
    ∙ ap (goes (value_at k1)) (append_assoc (value v) end w)
    ∙ one_value v g.1 k1 (sign signs.Semicolon ∷ w) tt tt

compared : (c : Comparison) (k : Comparison → Place) (w : List Marked) → goes (ComparisonAt k) (sign (comparing c) ∷ w) ≡ goes (k c) w
compared comparisons.Equal k w = refl
compared comparisons.NotEqual k w = refl
compared comparisons.Less k w = refl
compared comparisons.LessOrEqual k w = refl
compared comparisons.Greater k w = refl
compared comparisons.GreaterOrEqual k w = refl

asked : (q : Question) → IsQuestion q → (room : ℕ) (k : Block → Place) (w : List Marked) → IsFirm w → goes (BodyAt room k) (question q ++ w) ≡ goes (behind room k (Asks q)) w
unfolding get_at find_at if_at
asked (Get at x c m key close) g room k w f =
    let k0 = λ (keys : List Expression). CloseAt (λ p. behind room k (Asks (Get at x c m keys p))) in
    ap (goes (values_at k0)) (append_assoc (values key) (word signs.CloseParenthesis close ∷ []) w)
    ∙ all_values key k0 (word signs.CloseParenthesis close ∷ w) tt g.0 g.1
asked (Find at x c i gs) g room k w f =
    let k0 = λ (j : Expression). SignAt signs.CloseBracket (WhereAt (λ u. behind room k (Asks (Find at x c j u)))) in
    let k1 = λ (u : Guards). behind room k (Asks (Find at x c i u)) in
    ap (goes (value_at k0)) (append_assoc (value i) (sign signs.CloseBracket ∷ guards gs) w)
    ∙ one_value i g.0 k0 (sign signs.CloseBracket ∷ (guards gs ++ w)) tt tt
    ∙ all_guards gs k1 w f g.1
asked (Test l c r) g room k w f =
    let k0 = λ (u : Expression). ComparisonAt (λ d. value_at (λ v. behind room k (Asks (Test u d v)))) in
    let k1 = λ (d : Comparison). value_at (λ v. behind room k (Asks (Test l d v))) in
    let k2 = λ (v : Expression). behind room k (Asks (Test l c v)) in
    ap (goes (value_at k0)) (append_assoc (value l) (sign (comparing c) ∷ value r) w)
    ∙ one_value l g.0 k0 (sign (comparing c) ∷ (value r ++ w)) tt tt
    ∙ compared c k1 (value r ++ w)
    ∙ one_value r g.1 k2 w (no_factor w f) (no_term w f)

all_given : (gs : List Given) (k : List Given → Place) (close : places.Place) (w : List Marked) → AreGiven gs → goes (GivenAt k) (given gs ++ word signs.CloseParenthesis close ∷ w) ≡ goes (k gs) (word signs.CloseParenthesis close ∷ w)
all_given [] k close w are = refl
all_given (g ∷ gs) k close w are = some_given (g ∷ gs) k (word signs.CloseParenthesis close ∷ w) tt tt are

made : (n : Creation) → IsCreation n → (room : ℕ) (k : Block → Place) (w : List Marked) → goes (BodyAt room k) (creation n ++ w) ≡ goes (behind room k (Makes n)) w
unfolding new_at
made n g room k w =
    let k0 = λ (gs : List Given). CloseAt (λ p. behind room k (Makes (creation_one n.place (record { variable = n.variable; chain = n.chain }) gs p))) in
    ap (goes (GivenAt k0)) (append_assoc (given n.given) (word signs.CloseParenthesis n.close ∷ []) w)
    ∙ all_given n.given k0 n.close w g

ended : (e : Ending) → IsEnding Required e → (room : ℕ) (k : Block → Place) (w : List Marked) → goes (BodyAt room k) (ending e ++ w) ≡ goes (behind room k (Ends e)) w
unfolding forward_at
ended FallsOff g room k w = refl
ended Missing g room k w = absurd g
ended (Forward v) g room k w =
    let k1 = λ (u : Expression). SignAt signs.Semicolon (SignAt signs.CloseBrace (behind room k (Ends (Forward u)))) in
    ap (goes (value_at k1)) (append_assoc (value v) (sign signs.Semicolon ∷ sign signs.CloseBrace ∷ []) w)
    ∙ one_value v g k1 (sign signs.Semicolon ∷ sign signs.CloseBrace ∷ w) tt tt
ended Flood g room k w = refl
ended Discard g room k w = refl

-- nothing that may be left out begins with what a block begins with
firm_operation : (o : Operation) (a b : List Marked) → IsFirm ((operation o ++ a) ++ b)
firm_operation (Touch x) a b = tt
firm_operation (Free at x) a b = tt
firm_operation (Set f at v) a b = tt
firm_operation (Write x c v) a b = tt
firm_operation (Store x i v) a b = tt

firm_question : (q : Question) (a b : List Marked) → IsFirm ((question q ++ a) ++ b)
firm_question (Get at x c m key close) a b = tt
firm_question (Find at x c i gs) a b = tt
firm_question (Test l c r) a b = tt

firm_ending : (e : Ending) → IsEnding Required e → (b : List Marked) → IsFirm (ending e ++ b)
firm_ending FallsOff g b = tt
firm_ending Missing g b = absurd g
firm_ending (Forward v) g b = tt
firm_ending Flood g b = tt
firm_ending Discard g b = tt

firm_body : (room : ℕ) (b : Block) → IsBlock Required b → (w : List Marked) → IsFirm (body room b ++ w)
firm_body room (End e) g w = firm_ending e g w
firm_body room (Do o next) g w = firm_operation o _ w
firm_body room (Ask q hit miss next) g w = firm_question q _ w
firm_body room (Make n made taken full next) g w = tt

abbrev pub Complete : Presence → Block → Type 0
Complete Required b = (room : ℕ) (k : Block → Place) (w : List Marked) → goes (BodyAt room k) (body room b ++ w) ≡ goes (k b) w
Complete Optional b = (s : Sign) (room : ℕ) (k : Block → Place) (w : List Marked) → Misses s w → goes (OptionalAt s room k) (optional s room b (body (room - 1) b) ++ w) ≡ goes (k b) w

pub block : (b : Block) → Complete Required b → (room : ℕ) (k : Block → Place) (w : List Marked) → goes (BlockAt room k) (braced room (body (room - 1) b) ++ w) ≡ goes (k b) w
block b c room k w = agree_itself (room == 0) _ ∙ c (room - 1) k w

pub written : (s : Sign) (room : ℕ) (b : Block) (inside : List Marked) → IsBlock Required b → optional s room b inside ≡ join s ∷ braced room inside
written s room (End Missing) inside g = absurd g
written s room b inside g = refl

took : (s : Sign) (room : ℕ) (k : Block → Place) (ms : List Marked) → goes (OptionalAt s room k) (join s ∷ ms) ≡ goes (BlockAt room k) ms
took s room k ms = ap (λ b. on_row (go_or b (BlockAt room k) (step (k (End Missing)) (AJoin s))) false (λ next. goes next ms)) (eq-eqb (number_of s) (number_of s) refl)

at : (presence : Presence) (b : Block) → IsBlock Required b → Complete Required b → Complete presence b
at Required b g c = c
at Optional b g c = λ s room k w n. ap (λ x. goes (OptionalAt s room k) (x ++ w)) (written s room b (body (room - 1) b) g)
    ∙ took s room k (braced room (body (room - 1) b) ++ w) ∙ block b c room k w

misses_taken : (room : ℕ) (full : Block) (inside w : List Marked) → IsFirm w → Misses signs.Taken (optional signs.Full room full inside ++ w)
misses_taken room (End Missing) inside w h = misses signs.Taken w h
misses_taken room full inside w h = refl

end_block : (presence : Presence) (e : Ending) → IsEnding presence e → Complete presence (End e)
end_block presence FallsOff g = at presence (End FallsOff) tt (ended FallsOff tt)
end_block Required Missing g = absurd g
end_block Optional Missing g = λ s room k w n. skip_optional s room k w n
end_block presence (Forward v) g = at presence (End (Forward v)) g (ended (Forward v) g)
end_block presence Flood g = at presence (End Flood) tt (ended Flood tt)
end_block presence Discard g = at presence (End Discard) tt (ended Discard tt)

do_block : (o : Operation) (next : Block) → IsOperation o → Complete Required next → Complete Required (Do o next)
do_block o next g cn = λ room k w.
    ap (goes (BodyAt room k)) (append_assoc (operation o) (body room next) w)
    ∙ did o g room k (body room next ++ w)
    ∙ cn room (λ n. k (Do o n)) w

ask_block : (q : Question) (hit miss next : Block) → IsQuestion q → IsBlock Required next →
    Complete Required hit → Complete Optional miss → Complete Required next → Complete Required (Ask q hit miss next)
ask_block q hit miss next g gn ch cm cn = λ room k w.
    let hits = braced room (body (room - 1) hit) in
    let missed = optional signs.Else room miss (body (room - 1) miss) in
    let rest = body room next in
    let k2 = λ (m : Block). BodyAt room (λ n. k (Ask q hit m n)) in
    let k1 = λ (h : Block). OptionalAt signs.Else room (λ m. BodyAt room (λ n. k (Ask q h m n))) in
    ap (goes (BodyAt room k)) (append_assoc (question q) (hits ++ (missed ++ rest)) w)
    ∙ asked q g room k ((hits ++ (missed ++ rest)) ++ w) tt
    ∙ ap (goes (BlockAt room k1)) (append_assoc hits (missed ++ rest) w)
    ∙ block hit ch room k1 ((missed ++ rest) ++ w)
    ∙ ap (goes (OptionalAt signs.Else room k2)) (append_assoc missed rest w)
    ∙ cm signs.Else room k2 (rest ++ w) (misses signs.Else (rest ++ w) (firm_body room next gn w))
    ∙ cn room (λ n. k (Ask q hit miss n)) w

make_block : (c : Creation) (made taken full next : Block) → IsCreation c → IsBlock Required next →
    Complete Required made → Complete Optional taken → Complete Optional full → Complete Required next → Complete Required (Make c made taken full next)
make_block c m t f next g gn cm ct cf cn = λ room k w.
    let makes = braced room (body (room - 1) m) in
    let takes = optional signs.Taken room t (body (room - 1) t) in
    let fills = optional signs.Full room f (body (room - 1) f) in
    let rest = body room next in
    let k3 = λ (z : Block). BodyAt room (λ n. k (Make c m t z n)) in
    let k2 = λ (y : Block). OptionalAt signs.Full room (λ z. BodyAt room (λ n. k (Make c m y z n))) in
    let k1 = λ (x : Block). OptionalAt signs.Taken room (λ y. OptionalAt signs.Full room (λ z. BodyAt room (λ n. k (Make c x y z n)))) in
    let firm = firm_body room next gn w in
    ap (goes (BodyAt room k)) (append_assoc (creation c) (makes ++ (takes ++ (fills ++ rest))) w)
    ∙ made c g room k ((makes ++ (takes ++ (fills ++ rest))) ++ w)
    ∙ ap (goes (BlockAt room k1)) (append_assoc makes (takes ++ (fills ++ rest)) w)
    ∙ block m cm room k1 ((takes ++ (fills ++ rest)) ++ w)
    ∙ ap (goes (OptionalAt signs.Taken room k2)) (append_assoc takes (fills ++ rest) w ∙ ap (λ x. takes ++ x) (append_assoc fills rest w))
    ∙ ct signs.Taken room k2 (fills ++ (rest ++ w)) (misses_taken room f (body (room - 1) f) (rest ++ w) firm)
    ∙ cf signs.Full room k3 (rest ++ w) (misses signs.Full (rest ++ w) firm)
    ∙ cn room (λ n. k (Make c m t f n)) w

pub complete : (presence : Presence) (b : Block) → IsBlock presence b → Complete presence b
complete presence (End e) g = end_block presence e g
complete presence (Do o next) g = at presence (Do o next) g (do_block o next g.0 (complete Required next g.1))
complete presence (Ask q hit miss next) g =
    at presence (Ask q hit miss next) g (ask_block q hit miss next g.0 g.3 (complete Required hit g.1) (complete Optional miss g.2) (complete Required next g.3))
complete presence (Make n made taken full next) g =
    at presence (Make n made taken full next) g (make_block n made taken full next g.0 g.4 (complete Required made g.1) (complete Optional taken g.2) (complete Optional full g.3) (complete Required next g.4))
