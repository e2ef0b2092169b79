use Rattle.std.proofs.Common.{Result, Ok, Err, OnOk, arith}
use Rattle.std.proofs.lemmas.Option.{slice_get_within}
use Rattle.packet_feed.proofs.Nexts.{settled_all, still_but}
use Rattle.packet_feed.proofs.sources.fill_next.Goals as goal

on_ok : {T E : Type 0} {A B : Type 0} → (r : Result T E) → (A → B) → OnOk r A → OnOk r B
on_ok (Ok x) f a = f a
on_ok (Err e) f a = a

pub returns-then-last-len-clause-settled : goal.returns-then-last-len-clause-settled
returns-then-last-len-clause-settled g c =
    on_ok c.fill_at.result (λ here. settled_all c.args.last c.args.sources.now c.fill_at.new.sources (c.requires.settled c.if-not-settled.false) c.fill_at.ensures.others here) c.fill_at.ensures.settled

pub returns-then-last-len-clause-but : goal.returns-then-last-len-clause-but
returns-then-last-len-clause-but g c = λ is. still_but c.args.last c.args.sources.now c.fill_at.new.sources (c.requires.settled is) c.fill_at.ensures.others

pub returns-else-last-len-clause-settled : goal.returns-else-last-len-clause-settled
returns-else-last-len-clause-settled g c = λ p s e.
    let inside = slice_get_within c.args.sources.now p s e in
    c.requires.settled c.if-not-settled.false p s e (λ same. omega (arith, same, inside))
