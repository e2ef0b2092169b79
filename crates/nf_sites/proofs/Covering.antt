-- Cover.
use Rattle.std.proofs.Common.{List, [], ◌∷◌, Option, Some, None}
use Rattle.nf_base.specs.Text.{Function}
use Rattle.nf_base.specs.Events.{Event}
use Rattle.nf_base.specs.Locations.{Numbers, numbers_after}
use Rattle.nf_base.specs.Record.{NewEntry, made_of}
use Rattle.nf_base.specs.Step.{recorded}
use Rattle.nf_sites.specs.Sites.{Site}
use Rattle.nf_sites.specs.Covers.{no_table}
use Rattle.nf_sites.specs.Labelled.{IsListed, Listed}
use Rattle.nf_sites.specs.CoverLaws.{IsOf, Covers, SitesCover, RecordsAreCovered, EventsAreCovered}
use Rattle.nf_sites.proofs.Going.{Taken, went, wider_by, in_function}

-- where nothing is told, nothing is wanted
none_listed : (ns : Numbers) (o : Option NewEntry) → IsListed no_table ns o
none_listed ns None = tt
none_listed ns (Some made) = tt

all_listed : (ns : Numbers) (es : List Event) → Listed no_table ns es
all_listed ns [] = tt
all_listed ns (e ∷ es) = (none_listed ns (made_of e), all_listed (numbers_after ns e) es)

pub records_covered : RecordsAreCovered
records_covered f table s ns packet fields choices x e a l h = (went f table s ns packet choices packet.fields a l).seen fields e x h

pub events_covered : EventsAreCovered
events_covered f table s ns packet fields choices es fs d x e a l is h = (went f table s ns packet choices packet.fields a l).each fields e es fs d x is h

pub sites_cover : SitesCover
sites_cover f s ns packet fields choices es fs d x e is h =
    wider_by (Taken f s packet choices packet.fields) (IsOf f) f no_table packet fields ns es d x (in_function f s packet choices packet.fields)
    ((went f no_table s ns packet choices packet.fields (λ chain i e h. tt) (all_listed ns (recorded f s packet choices))).each fields e es fs d x is h)

-- sites by what is seen of them
pub cover_more : (f : Function) (ok more : Site → Type 0) → ((x : Site) → ok x → more x) → Covers f ok → Covers f more
cover_more f ok more h all s ns packet fields choices es fs d x e is i =
    wider_by ok more f no_table packet fields ns es d x h (all s ns packet fields choices es fs d x e is i)
