use Rattle.std.proofs.Common.{arith, Result, Ok, Err, OnOk}
use Rattle.nf_files.proofs.Told.{writes_opened}
use Rattle.nf_files.proofs.memory.store.Store.write.Goals as goal

on_ok : {T E : Type 0} {A B : Type 0} → (r : Result T E) → (A → B) → OnOk r A → OnOk r B
on_ok (Ok x) f a = f a
on_ok (Err e) f a = a

pub returns-in_default-clause-ok : goal.returns-in_default-clause-ok
returns-in_default-clause-ok c =
    on_ok c.write_at.result (λ gained. writes_opened _ _ _ c.args.self.now.files.items c.write_at.new.files.items c.args.file _ c.args.piece.now (omega arith) c.write_at.ensures.changes gained c.write_at.ensures.rest) c.write_at.ensures.gained
