use Rattle.std.proofs.Common.{refl}
use Rattle.vig_tables.proofs.StateLemmas.{expired_is, decls_stay, shares_stay}
use Rattle.vig_tables.proofs.tables.Tables.expire.Goals as goal

pub invariant_of-self : goal.invariant_of-self
invariant_of-self c = rw c.expire_all.ensures (shares_stay c.args.time c.self.inside.share c.self.inside.chains c.self.invariant)

pub returns : goal.returns
returns c = rw (c.expire_all.ensures, ← c.self.view_is, decls_stay c.args.time c.self.inside.chains, expired_is c.args.time c.self.inside.chains) refl
