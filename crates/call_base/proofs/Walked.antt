-- How many paths the handlers of a function have.
use Rattle.std.proofs.Common.{◌≡◌, ◌<◌, ◌≤◌, ◌+◌, ◌⊎◌, inl, inr, ℕ, zero, suc, Bool, true, false, List, [], ◌∷◌, ◌++◌, length, map, slice_get, Option, Some, None, ap, ap₂, sym, subst, refl, ◌∙◌, arith}
use Rattle.std.specs.Prelude.{slice_index_or, is_some}
use Rattle.std.specs.List.{range_with_len}
use Rattle.std.specs.Option.{option_and_then}
use Rattle.std.proofs.lemmas.List.{length-map}
use Rattle.std.proofs.lemmas.List.FromFn.{map-range_with_len_more}
use Rattle.std.proofs.Math.Nat.{eq-or-lt_of_le}
use Rattle.nf_base.specs.Text.{Block, PortBlocks, Function}
use Rattle.nf_base.specs.Doors.{handler_in, handler_at, has_six, six_ports, six_at}
use Rattle.nf_base.specs.Handlers.{blocks_of}
use Rattle.nf_base.specs.declared.func.Func.{Func}
use Rattle.nf_base.specs.declared.packet.Door.{Door}
use Rattle.nf_base.specs.declared.packet.Family.{Family}
use Rattle.nf_base.specs.declared.packet.Family.TheVariants.{Four, Six}
use Rattle.nf_base.specs.Functions.{function_of}
use Rattle.path_walk.specs.Feasible.{handler_paths, door_paths, branches_along}
use Rattle.path_walk.specs.Listed.{door_branches}
use Rattle.call_base.specs.declared.function.PathCounts.{PathCounts}
use Rattle.call_base.specs.declared.function.Uncounted.{Uncounted}
use Rattle.call_base.specs.declared.function.Uncounted.TheVariants as causes
use Rattle.call_base.specs.Source.{four_door, six_door, path_count, port_counts, HasFewPaths, IsBefore, IsPastPaths}
use Rattle.call_base.specs.Walking.{HasFewAt, IsPast, IsPastAt, IsUncountedAt, IsUncounted}

-- paths are as many as their branches
pub counted_at : (f : Function) (door : Door) → length (door_branches f door) ≡ path_count f door
counted_at f door = length-map (door_paths f door) branches_along

-- a port is one that has handlers
pub ports_of : (func : Func) → length (function_of func).handlers ≡ length func.handlers
ports_of func = length-map func.handlers blocks_of

-- one port more
pub counts_more : (f : Function) (counts new : List PathCounts) (port : ℕ) (n : PathCounts) → counts ≡ map (port_counts f) (range_with_len 0 port) → new ≡ counts ++ n ∷ [] → n ≡ port_counts f port →
    new ≡ map (port_counts f) (range_with_len 0 (port + 1))
counts_more f counts new port n so_far more is =
    more ∙ ap (λ xs. xs ++ n ∷ []) so_far
    ∙ ap (λ k. map (port_counts f) (range_with_len 0 port) ++ k ∷ []) is
    ∙ sym (map-range_with_len_more (port_counts f) 0 port port (omega arith))

pub few_more : (f : Function) (port : ℕ) → ((other : Door) → other.port < port → path_count f other ≤ 4096) → HasFewAt f port →
    (other : Door) → other.port < port + 1 → path_count f other ≤ 4096
few_more f port few at other lt = elim (eq-or-lt_of_le {n = other.port} {m = port} (omega arith)) [
  | inl same ↦ subst (λ k. path_count f (record { port = k; family = other.family }) ≤ 4096) (sym same) (at other.family)
  | inr less ↦ few other less
]

lt_or_le : (m n : ℕ) → (m < n) ⊎ (n ≤ m)
lt_or_le m zero = inr (omega arith)
lt_or_le zero (suc n) = inl (omega arith)
lt_or_le (suc m) (suc n) = elim (lt_or_le m n) [
  | inl less ↦ inl (omega arith)
  | inr past ↦ inr (omega arith)
]

past_end : (xs : List PortBlocks) (k : ℕ) → length xs ≤ k → slice_get xs k ≡ None
past_end [] k le = refl
past_end (x ∷ xs) zero le = absurd (omega arith)
past_end (x ∷ xs) (suc k) le = past_end xs k (omega arith)

-- a port that the function doesn't have has no handler
no_door : (f : Function) (door : Door) → length f.handlers ≤ door.port → path_count f door ≡ 0
no_door f door past =
    ap (λ (h : Option PortBlocks). length (handler_paths (option_and_then (handler_in door.family) h))) (past_end f.handlers door.port past)

pub few_all : (func : Func) (n : ℕ) → length func.handlers ≤ n → ((other : Door) → other.port < n → path_count (function_of func) other ≤ 4096) → HasFewPaths (function_of func)
few_all func n all few door = elim (lt_or_le door.port n) [
  | inl less ↦ few door less
  | inr past ↦ (let e = no_door (function_of func) door (omega (arith, ports_of func)) in omega (arith, e))
]

none_listed : (hs : List PortBlocks) (k : ℕ) → slice_index_or (map has_six hs) k false ≡ false → option_and_then (handler_in Six) (slice_get hs k) ≡ None
none_listed [] k e = refl
none_listed (h ∷ hs) zero e = none_there h.six e
  where
    none_there : (o : Option Block) → is_some o ≡ false → o ≡ None
    none_there None e = refl
    none_there (Some b) e = cc
none_listed (h ∷ hs) (suc k) e = none_listed hs k e

-- a port without a handler for IPv6 has no path of one
pub no_six : (f : Function) (port : ℕ) → six_at (six_ports f) port ≡ false → path_count f (six_door port) ≡ 0
no_six f port e = ap (λ (h : Option Block). length (handler_paths h)) (none_listed f.handlers port e)

-- the handler for IPv4 has few enough paths, and so has that for IPv6
pub few_both : (f : Function) (port : ℕ) → path_count f (four_door port) ≤ 4096 → path_count f (six_door port) ≤ 4096 → HasFewAt f port
few_both f port four six Four = four
few_both f port four six Six = six

-- the handler for IPv4 has too many paths, and stands first
pub past_four : (f : Function) (port : ℕ) (u : Uncounted) → IsPast f (four_door port) u → IsUncountedAt f port u
past_four f port (causes.TooMany door) h =
    record {
      of_port = ap (λ (d : Door). d.port) h.0;
      past = subst (λ (d : Door). 4096 < path_count f d) (sym h.0) h.1;
      first = λ six. absurd (other (ap (λ (d : Door). d.family) (sym h.0) ∙ six));
    }
  where
    other : Four ≡ Six → ⊥
    other e = cc
past_four f port causes.Memory h = tt

-- that for IPv6 has, and that for IPv4 has not
pub past_six : (f : Function) (port : ℕ) (u : Uncounted) → path_count f (four_door port) ≤ 4096 → IsPast f (six_door port) u → IsUncountedAt f port u
past_six f port (causes.TooMany door) few h =
    record {
      of_port = ap (λ (d : Door). d.port) h.0;
      past = subst (λ (d : Door). 4096 < path_count f d) (sym h.0) h.1;
      first = λ six. few;
    }
past_six f port causes.Memory few h = tt

first_past : (f : Function) (port : ℕ) (door : Door) → ((other : Door) → other.port < port → path_count f other ≤ 4096) → IsPastAt f port door → (other : Door) → IsBefore other door → path_count f other ≤ 4096
first_past f port door few at other (inl less) = few other (omega (arith, less, at.of_port))
first_past f port door few at other (inr same) =
    subst (λ (g : Family). path_count f (record { port = other.port; family = g }) ≤ 4096) (sym same.1)
    (subst (λ k. path_count f (four_door k) ≤ 4096) (sym (same.0 ∙ at.of_port)) (at.first same.2))

-- the first port with such a handler has the first one
pub uncounted : (f : Function) (port : ℕ) (u : Uncounted) → port < length f.handlers → ((other : Door) → other.port < port → path_count f other ≤ 4096) → IsUncountedAt f port u → IsUncounted f u
uncounted f port (causes.TooMany door) lt few at =
    (subst (λ k. k < length f.handlers) (sym at.of_port) lt, record { past = at.past; least = first_past f port door few at })
uncounted f port causes.Memory lt few at = tt
