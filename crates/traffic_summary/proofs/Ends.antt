-- Lines behind one another, and their end.
use Rattle.std.proofs.Common.{◌≡◌, ℕ, zero, suc, ◌+◌, List, [], ◌∷◌, ◌++◌, length, min, drop, refl, ap, ◌∙◌, sym, append_assoc, arith, length-drop, append-nil}
use Rattle.nf_base.specs.declared.decl.ChainDecl.{ChainDecl}
use Rattle.nf_base.specs.declared.state.Chain.{Chain}
use Rattle.traffic_summary.specs.Summary.{port_line, port_lines, entries_lines}

no_entries : (ds : List ChainDecl) (cs : List Chain) → min (length ds) (length cs) ≡ 0 → entries_lines ds cs ≡ []
no_entries [] cs h = refl
no_entries (d ∷ ds) [] h = refl
no_entries (d ∷ ds) (c ∷ cs) h = absurd (omega arith)

pub entries_end : (ds : List ChainDecl) (cs : List Chain) (k : ℕ) → k ≡ min (length ds) (length cs) → entries_lines (drop k ds) (drop k cs) ≡ []
entries_end ds cs k h = no_entries (drop k ds) (drop k cs) (simp length-drop (omega arith))

ports_next : (packets ports port n : ℕ) → port_lines packets ports port (suc n) ≡ port_lines packets ports port n ++ port_line packets ports (port + n)
ports_next packets ports port zero = let e : port ≡ port + 0 = omega arith in append-nil (port_line packets ports port) ∙ ap (port_line packets ports) e
ports_next packets ports port (suc n) =
    let e : (port + 1) + n ≡ port + suc n = omega arith in
    ap (λ (t : List ℕ). port_line packets ports port ++ t) (ports_next packets ports (port + 1) n ∙ ap (λ (p : ℕ). port_lines packets ports (port + 1) n ++ port_line packets ports p) e)
    ∙ sym (append_assoc (port_line packets ports port) (port_lines packets ports (port + 1) n) (port_line packets ports (port + suc n)))

-- a port more
pub ports_more : (packets ports port : ℕ) (first old new : List ℕ) → old ≡ first ++ port_lines packets ports 0 port → new ≡ old ++ port_line packets ports port → new ≡ first ++ port_lines packets ports 0 (port + 1)
ports_more packets ports port first old new e f =
    let one : port + 1 ≡ suc port = omega arith in
    let here : 0 + port ≡ port = omega arith in
    f
    ∙ ap (λ (t : List ℕ). t ++ port_line packets ports port) e
    ∙ append_assoc first (port_lines packets ports 0 port) (port_line packets ports port)
    ∙ ap (λ (t : List ℕ). first ++ t) (ap (λ (p : ℕ). port_lines packets ports 0 port ++ port_line packets ports p) (sym here) ∙ sym (ports_next packets ports 0 port) ∙ ap (port_lines packets ports 0) (sym one))
