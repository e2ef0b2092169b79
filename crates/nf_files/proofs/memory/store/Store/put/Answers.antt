use Rattle.std.proofs.Common.{◌∙◌}
use Rattle.nf_files.specs.declared.memory.named.Named.{Named}
use Rattle.nf_files.proofs.Told.{puts}
use Rattle.nf_files.proofs.memory.store.Store.put.Goals as goal

pub returns-clause-ok : goal.returns-clause-ok
returns-clause-ok c =
    let y : Named = record { name = c.in_ok-from_slice.field-0; bytes = c.in_ok-from_slice-2.field-0 } in
    rw (c.displace_all.ensures.value, c.in_ok-insert.ensures.items) (puts c.args.self.now.names.items _ _ c.args.self.now.files.items y c.args.name.now c.args.bytes.now (c.in_ok-from_slice.ensures.items ∙ c.as_bytes.ensures.value) c.in_ok-from_slice-2.ensures.items)
