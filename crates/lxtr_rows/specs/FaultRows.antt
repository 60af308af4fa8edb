-- Where the faults of document 01's examples lie, and each kind of fault of rule 11.
use Rattle.std.specs.Prelude.{ℕ, refl, List, [], ◌∷◌, ◌++◌, replicate, set, Some, None}
use Rattle.lxtr_spec.specs.Builds.{image_bytes}
use Rattle.lxtr_spec.specs.Samples.{nodes3, offsets3, children3, labels3, p3, p7, p8_check, p8_slot, p9_labels, p9_longer, p10}
use Rattle.lxtr_spec.specs.declared.Fault.TheVariants.{Label, Slot, Offset, Entry, Unlisted, Childless, RootBase, Unreachable}
use Rattle.lxtr_demands.specs.Rows.{Example, fault_at, AllHold, ◌and◌, computing}

-- P3 whose list of slot 3 lacks slot 6, with these children
unfoldable pub lacking : List ℕ → List ℕ
lacking children = image_bytes nodes3 (0 ∷ 0 ∷ 1 ∷ 1 ∷ 2 ∷ 2 ∷ 2 ∷ 3 ∷ []) children labels3

unfoldable pub faults : List Example
faults =
    -- P3, P9 one byte longer, and a header whose numbers are all the largest
    fault_at p3 None 0 ∷ fault_at p9_longer None 0
    ∷ fault_at (0x4C ∷ 0x58 ∷ 0x54 ∷ 0x52 ∷ 3 ∷ 0 ∷ 0 ∷ 0 ∷ (replicate 12 0xFF ++ replicate 4 0)) None 0
    -- P9, P8, P7 and P10
    ∷ fault_at p9_labels (Some (Label 1)) 0x900_0000_0001
    ∷ fault_at p8_check (Some (Slot 3)) 0xA00_0000_0003 ∷ fault_at p8_slot (Some (Slot 5)) 0xA00_0000_0005
    ∷ fault_at p7 (Some (Entry 3 2)) 0xB08_0000_0002
    ∷ fault_at p10 (Some (Unreachable 2)) 0xC00_0000_0002
    -- P3 with offsets 0 4 1; a slot in no list; a slot that is not a leaf and has no child; no keys, and a base
    ∷ fault_at (image_bytes nodes3 (set offsets3 1 4) children3 labels3) (Some (Offset 1)) 0xB04_0000_0001
    ∷ fault_at (lacking (3 ∷ 4 ∷ 2 ∷ [])) (Some (Unlisted 6)) 0xB0C_0000_0006
    ∷ fault_at (image_bytes (0 ∷ 0 ∷ 3 ∷ 0 ∷ 0 ∷ 1 ∷ []) (0 ∷ 0 ∷ 1 ∷ 1 ∷ []) (2 ∷ []) (0x61 ∷ [])) (Some (Childless 2)) 0xB10_0000_0002
    ∷ fault_at (image_bytes (0 ∷ 0 ∷ 5 ∷ 0 ∷ []) (0 ∷ 0 ∷ 0 ∷ []) [] []) (Some RootBase) 0xB14_0000_0001
    -- several faults at once: the first of two wrong entries; offsets before entries, and entries before slots in no list
    ∷ fault_at (image_bytes nodes3 offsets3 (4 ∷ 4 ∷ 4 ∷ 2 ∷ []) labels3) (Some (Entry 1 0)) 0xB08_0000_0000
    ∷ fault_at (image_bytes nodes3 (set offsets3 6 2) (set children3 2 4) labels3) (Some (Offset 5)) 0xB04_0000_0005
    ∷ fault_at (lacking (3 ∷ 4 ∷ 9 ∷ [])) (Some (Entry 6 2)) 0xB08_0000_0002
    ∷ []

pub faults_hold : AllHold faults
unfolding faults lacking computing
faults_hold =
    (refl, refl) and (refl, refl) and (refl, refl)
    and (refl, refl) and (refl, refl) and (refl, refl) and (refl, refl) and (refl, refl)
    and (refl, refl) and (refl, refl) and (refl, refl) and (refl, refl)
    and (refl, refl) and (refl, refl) and (refl, refl)
    and tt
