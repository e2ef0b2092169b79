use Rattle.std.proofs.Common.{◌≡◌, ◌∙◌, ℕ, List, length, ap, sym, arith}
use Rattle.std.proofs.lemmas.List.{length-map}
use Rattle.nf_base.specs.Functions.{function_of}
use Rattle.nf_base.specs.Handlers.{blocks_of}
use Rattle.nf_base.specs.Doors.{doors_at}
use Rattle.nf_base.specs.declared.func.Func.{Func}
use Rattle.nf_sites.specs.OnPaths.{door_sites, sites_of}
use Rattle.std.specs.List.{flat_map, range_with_len}
use Rattle.access_keys.specs.declared.site.Site.{Site}
use Rattle.access_keys.specs.Told.{site_told, sites_told}
use Rattle.access_keys.proofs.Covered.{told_cover}
use Rattle.access_keys.proofs.Steps.{ports_more, flat_flat}
use Rattle.access_keys.proofs.function.sites.Goals as goal

-- all ports are gone along
all_told :
    (func : Func) (n : ℕ) (sites : List Site) → n ≡ length func.handlers →
    sites ≡ sites_told (function_of func) (flat_map (λ port. flat_map (door_sites (function_of func)) (doors_at port)) (range_with_len 0 n)) →
    sites ≡ sites_told (function_of func) (sites_of (function_of func))
all_told func n sites e p =
    let f = function_of func in
    p ∙ ap (λ m. sites_told f (flat_map (λ port. flat_map (door_sites f) (doors_at port)) (range_with_len 0 m))) (e ∙ sym (length-map func.handlers blocks_of))
    ∙ ap (sites_told f) (sym (flat_flat (door_sites f) doors_at (range_with_len 0 (length f.handlers))))

pub loop-port-preserved : goal.loop-port-preserved
loop-port-preserved c =
    let f = function_of c.args.func.now in
    ports_more (λ port. flat_map (door_sites f) (doors_at port)) (site_told f) c.loop-port.port c.loop-port.sites.items c.put_port.new.sites.items c.loop-port.invariant c.in_ok-put_port.ensures

pub returns-clause-all : goal.returns-clause-all
returns-clause-all c = all_told c.args.func.now c.loop-port.port c.loop-port.sites.items (omega arith) c.loop-port.invariant

pub returns-clause-cover : goal.returns-clause-cover
returns-clause-cover c =
    told_cover (function_of c.args.func.now) c.loop-port.sites.items
    (all_told c.args.func.now c.loop-port.port c.loop-port.sites.items (omega arith) c.loop-port.invariant)
