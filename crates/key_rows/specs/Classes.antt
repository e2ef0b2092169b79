-- Which fields of two tied inputs have to be equal.
use Rattle.std.specs.Prelude.{ℕ, ◌+◌, ◌==◌, List, [], ◌∷◌, slice_index, if◌then◌else◌}
use Rattle.nf_base.specs.declared.hash_fields.Hashable.{Hashable}
use Rattle.nf_base.specs.declared.hash_fields.Hashable.TheVariants.{SrcIp, DstIp, SrcPort, DstPort}
use Rattle.nf_base.specs.Hashed.{number, width, address_width}
use Rattle.nf_base.specs.declared.packet.Family.{Family}

-- behind which bit of its input a field ends
abbrev pub end : Family → Hashable → ℕ
end f SrcIp = address_width f
end f DstIp = address_width f + address_width f
end f SrcPort = address_width f + address_width f + 16
end f DstPort = address_width f + address_width f + 16 + 16

-- Eight fields go by number: those of the first input are 0 to 3, in the order of the input, and
-- those of the second 4 to 7. How many bits they have:
abbrev pub width_at : Family → Family → ℕ → ℕ
width_at f g n = slice_index (
    width f SrcIp ∷ width f DstIp ∷ width f SrcPort ∷ width f DstPort
    ∷ width g SrcIp ∷ width g DstIp ∷ width g SrcPort ∷ width g DstPort ∷ []
    ) n

-- and behind which bit of their input they end
abbrev pub end_at : Family → Family → ℕ → ℕ
end_at f g n = slice_index (
    end f SrcIp ∷ end f DstIp ∷ end f SrcPort ∷ end f DstPort
    ∷ end g SrcIp ∷ end g DstIp ∷ end g SrcPort ∷ end g DstPort ∷ []
    ) n

-- the classes, with those of a and b made one
abbrev pub joined : ℕ → ℕ → (ℕ → ℕ) → ℕ → ℕ
joined a b class n = (if class n == class b then class a else class n)

-- Each label makes the classes of its two fields one.
abbrev pub classes_from : (ℕ → ℕ) → List Hashable → List Hashable → ℕ → ℕ
classes_from class [] second = class
classes_from class (x ∷ first) [] = class
classes_from class (x ∷ first) (y ∷ second) =
    classes_from (joined (number x) (4 + number y) class) first second

-- the class of each field, which is one of its fields; at first each field is alone
abbrev pub class_of : List Hashable → List Hashable → ℕ → ℕ
class_of first second = classes_from (λ n. n) first second
