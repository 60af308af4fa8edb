-- Readings of document 02's request 7 as one table: the definitions compute what the rows say.
-- In P3, 6E (n) has the value 0 and 6E 61 (na) the value 1.
use Rattle.std.specs.Prelude.{ℕ, ◌^◌, ◌-◌, ◌+◌, refl, replicate, take, set}
use mathlib.Core.List.{List, [], ◌∷◌, ◌++◌, flatten}
use Rattle.lxtr_spec.specs.Numbers.{be_bytes, be_words}
use Rattle.lxtr_spec.specs.Builds.{image_bytes}
use Rattle.lxtr_spec.specs.Samples.{p1, nodes3, offsets3, children3, labels3, p3, p7, p9_longer}
use Rattle.lxtr_entries_spec.specs.EntryTables.{entry_size}
use Rattle.lxtr_entries_demands.specs.EntryDemand.{Entry}
use Rattle.lxtr_entries_demands.specs.EntryRows.{Example, form, accepted, refused, finds, no_key, not_looked_up, host_words, AllHold, ◌and◌, entries_computing}

-- two entries
unfoldable pub soap : Entry
soap = replicate entry_size 0xA1

unfoldable pub rice : Entry
rice = replicate entry_size 0xA2

-- a table with this version, V, these offsets and these entries, whether or not they fit together
unfoldable pub table : ℕ → ℕ → List ℕ → List Entry → List ℕ
table version values offsets entries = version ∷ (be_bytes values ++ (be_words offsets ++ flatten entries))

-- two entries for n and none for na
unfoldable pub table3 : List ℕ
table3 = table 1 2 (0 ∷ 2 ∷ 2 ∷ []) (soap ∷ rice ∷ [])

-- P3 where na has the value 4
unfoldable pub sparse : List ℕ
sparse = image_bytes (set nodes3 4 0x80000004) offsets3 children3 labels3

-- queries: n, na, and a label that is no key
abbrev n : List ℕ
n = 0x6E ∷ []

abbrev na : List ℕ
na = 0x6E ∷ 0x61 ∷ []

abbrev x : List ℕ
x = 0x78 ∷ []

unfoldable pub examples : List Example
examples =
    -- the bytes of the table
    form ((soap ∷ rice ∷ []) ∷ [] ∷ []) table3
    ∷ form ((soap ∷ []) ∷ []) (1 ∷ 0 ∷ 0 ∷ 0 ∷ 1 ∷ 0 ∷ 0 ∷ 0 ∷ 0 ∷ 0 ∷ 0 ∷ 0 ∷ 1 ∷ 0xA1 ∷ 0xA1 ∷ 0xA1 ∷ 0xA1 ∷ 0xA1 ∷ 0xA1 ∷ 0xA1 ∷ 0xA1 ∷ [])
    -- both entries of n, none of na, and no key
    ∷ accepted p3 table3 2 ∷ finds p3 n table3 0 (soap ∷ rice ∷ []) ∷ finds p3 na table3 0 [] ∷ no_key p3 x table3
    -- one entry each: that of na is the second one
    ∷ accepted p3 (table 1 2 (0 ∷ 1 ∷ 2 ∷ []) (soap ∷ rice ∷ [])) 2 ∷ finds p3 na (table 1 2 (0 ∷ 1 ∷ 2 ∷ []) (soap ∷ rice ∷ [])) 1 (rice ∷ [])
    -- an empty list has place 0, also between others
    ∷ finds p3 n (table 1 2 (0 ∷ 0 ∷ 1 ∷ []) (soap ∷ [])) 0 [] ∷ finds p3 na (table 1 2 (0 ∷ 0 ∷ 1 ∷ []) (soap ∷ [])) 0 (soap ∷ [])
    -- no entries at all
    ∷ accepted p3 (table 1 2 (0 ∷ 0 ∷ 0 ∷ []) []) 0 ∷ finds p3 n (table 1 2 (0 ∷ 0 ∷ 0 ∷ []) []) 0 []
    -- values may be sparse: V counts them all
    ∷ accepted sparse (table 1 5 (0 ∷ 1 ∷ 1 ∷ 1 ∷ 1 ∷ 2 ∷ []) (soap ∷ rice ∷ [])) 2 ∷ finds sparse na (table 1 5 (0 ∷ 1 ∷ 1 ∷ 1 ∷ 1 ∷ 2 ∷ []) (soap ∷ rice ∷ [])) 1 (rice ∷ []) ∷ refused sparse table3 27
    -- V larger than needed
    ∷ accepted p3 (table 1 3 (0 ∷ 1 ∷ 1 ∷ 2 ∷ []) (soap ∷ rice ∷ [])) 2 ∷ finds p3 n (table 1 3 (0 ∷ 1 ∷ 1 ∷ 2 ∷ []) (soap ∷ rice ∷ [])) 0 (soap ∷ [])
    -- no values: enough for an image without keys; 27 for P3, in a lookup only of a key
    ∷ accepted p1 (table 1 0 (0 ∷ []) []) 0 ∷ refused p3 (table 1 0 (0 ∷ []) []) 27 ∷ not_looked_up p3 (be_words n) (table 1 0 (0 ∷ []) []) 27 ∷ no_key p3 x (table 1 0 (0 ∷ []) [])
    -- one value: n has a list, na has none
    ∷ refused p3 (table 1 1 (0 ∷ 1 ∷ []) (soap ∷ [])) 27 ∷ finds p3 n (table 1 1 (0 ∷ 1 ∷ []) (soap ∷ [])) 0 (soap ∷ []) ∷ not_looked_up p3 (be_words na) (table 1 1 (0 ∷ 1 ∷ []) (soap ∷ [])) 27
    -- 26: version 2; no bytes at all; too few for V; a byte short of the offsets; a byte too much
    ∷ refused p3 (table 2 2 (0 ∷ 2 ∷ 2 ∷ []) (soap ∷ rice ∷ [])) 26 ∷ not_looked_up p3 (be_words n) (table 2 2 (0 ∷ 2 ∷ 2 ∷ []) (soap ∷ rice ∷ [])) 26
    ∷ refused p3 [] 26 ∷ not_looked_up p3 (be_words n) [] 26 ∷ refused p3 (1 ∷ 0 ∷ 0 ∷ 0 ∷ []) 26 ∷ not_looked_up p3 (be_words x) (1 ∷ 0 ∷ 0 ∷ 0 ∷ []) 26
    ∷ refused p3 (take 16 table3) 26 ∷ not_looked_up p3 (be_words n) (take 16 table3) 26 ∷ refused p3 (table3 ++ 0 ∷ []) 26 ∷ not_looked_up p3 (be_words n) (table3 ++ 0 ∷ []) 26
    -- .. also where the query is no key
    ∷ not_looked_up p3 (be_words x) (table3 ++ 0 ∷ []) 26
    -- the largest V, in a short table
    ∷ refused p3 (table 1 (2 ^ 32 - 1) (0 ∷ 2 ∷ 2 ∷ []) (soap ∷ rice ∷ [])) 26 ∷ not_looked_up p3 (be_words n) (table 1 (2 ^ 32 - 1) (0 ∷ 2 ∷ 2 ∷ []) (soap ∷ rice ∷ [])) 26
    -- offsets that don't start at 0: the lookup reads only its own two
    ∷ refused p3 (table 1 2 (1 ∷ 2 ∷ 2 ∷ []) (soap ∷ rice ∷ [])) 26 ∷ finds p3 n (table 1 2 (1 ∷ 2 ∷ 2 ∷ []) (soap ∷ rice ∷ [])) 1 (rice ∷ [])
    -- that fall after n
    ∷ refused p3 (table 1 2 (0 ∷ 2 ∷ 1 ∷ []) (soap ∷ rice ∷ [])) 26 ∷ finds p3 n (table 1 2 (0 ∷ 2 ∷ 1 ∷ []) (soap ∷ rice ∷ [])) 0 (soap ∷ rice ∷ []) ∷ not_looked_up p3 (be_words na) (table 1 2 (0 ∷ 2 ∷ 1 ∷ []) (soap ∷ rice ∷ [])) 26
    -- that end before the entries do
    ∷ refused p3 (table 1 2 (0 ∷ 1 ∷ 1 ∷ []) (soap ∷ rice ∷ [])) 26 ∷ finds p3 n (table 1 2 (0 ∷ 1 ∷ 1 ∷ []) (soap ∷ rice ∷ [])) 0 (soap ∷ [])
    -- that end after them
    ∷ refused p3 (table 1 2 (0 ∷ 2 ∷ 3 ∷ []) (soap ∷ rice ∷ [])) 26 ∷ finds p3 n (table 1 2 (0 ∷ 2 ∷ 3 ∷ []) (soap ∷ rice ∷ [])) 0 (soap ∷ rice ∷ []) ∷ not_looked_up p3 (be_words na) (table 1 2 (0 ∷ 2 ∷ 3 ∷ []) (soap ∷ rice ∷ [])) 26
    -- an equal pair at the end of the entries, and one past it
    ∷ finds p3 n (table 1 2 (2 ∷ 2 ∷ 2 ∷ []) (soap ∷ rice ∷ [])) 0 [] ∷ not_looked_up p3 (be_words n) (table 1 2 (3 ∷ 3 ∷ 2 ∷ []) (soap ∷ rice ∷ [])) 26
    -- two at once: the image, or the query's length, before the table
    ∷ refused p9_longer [] 6 ∷ not_looked_up p9_longer (be_words n) [] 6 ∷ not_looked_up p3 (0 ∷ 0 ∷ 0 ∷ []) [] 13
    -- the table's form before 27
    ∷ refused p3 (table 2 0 (0 ∷ []) []) 26 ∷ not_looked_up p3 (be_words n) (table 2 0 (0 ∷ []) []) 26
    -- other offsets before 27 for the check, and not read by the lookup
    ∷ refused p3 (table 1 1 (1 ∷ 0 ∷ []) (soap ∷ [])) 26 ∷ not_looked_up p3 (be_words na) (table 1 1 (1 ∷ 0 ∷ []) (soap ∷ [])) 27 ∷ not_looked_up p3 (be_words n) (table 1 1 (1 ∷ 0 ∷ []) (soap ∷ [])) 26
    -- an image that passes 1 to 8 only: 11 comes before the table's faults, and the lookup answers
    ∷ refused p7 table3 11 ∷ refused p7 [] 11 ∷ finds p7 n table3 0 (soap ∷ rice ∷ []) ∷ not_looked_up p7 (be_words n) [] 26
    -- for C: no word lent, one, three
    ∷ host_words p3 na (table 1 2 (0 ∷ 1 ∷ 2 ∷ []) (soap ∷ rice ∷ [])) [] (2 ^ 32 + 1) []
    ∷ host_words p3 na (table 1 2 (0 ∷ 1 ∷ 2 ∷ []) (soap ∷ rice ∷ [])) (7 ∷ []) (2 ^ 32 + 1) (1 ∷ [])
    ∷ host_words p3 na (table 1 2 (0 ∷ 1 ∷ 2 ∷ []) (soap ∷ rice ∷ [])) (7 ∷ 8 ∷ 9 ∷ []) (2 ^ 32 + 1) (1 ∷ 8 ∷ 9 ∷ [])
    ∷ []

pub examples_hold : AllHold examples
unfolding examples soap rice table table3 sparse entries_computing
examples_hold =
    refl
    and refl
    and (refl, refl) and (refl, refl, refl) and (refl, refl, refl) and (refl, refl, refl)
    and (refl, refl) and (refl, refl, refl)
    and (refl, refl, refl) and (refl, refl, refl)
    and (refl, refl) and (refl, refl, refl)
    and (refl, refl) and (refl, refl, refl) and (refl, refl)
    and (refl, refl) and (refl, refl, refl)
    and (refl, refl) and (refl, refl) and (refl, refl, refl) and (refl, refl, refl)
    and (refl, refl) and (refl, refl, refl) and (refl, refl, refl)
    and (refl, refl) and (refl, refl, refl)
    and (refl, refl) and (refl, refl, refl) and (refl, refl) and (refl, refl, refl)
    and (refl, refl) and (refl, refl, refl) and (refl, refl) and (refl, refl, refl)
    and (refl, refl, refl)
    and (refl, refl) and (refl, refl, refl)
    and (refl, refl) and (refl, refl, refl)
    and (refl, refl) and (refl, refl, refl) and (refl, refl, refl)
    and (refl, refl) and (refl, refl, refl)
    and (refl, refl) and (refl, refl, refl) and (refl, refl, refl)
    and (refl, refl, refl) and (refl, refl, refl)
    and (refl, refl) and (refl, refl, refl) and (refl, refl, refl)
    and (refl, refl) and (refl, refl, refl)
    and (refl, refl) and (refl, refl, refl) and (refl, refl, refl)
    and (refl, refl) and (refl, refl) and (refl, refl, refl) and (refl, refl, refl)
    and refl
    and refl
    and refl
    and tt
