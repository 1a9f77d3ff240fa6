use Rattle.std.proofs.Common.{ℕ, List, Option, ap, rules}
use Rattle.bz_base.proofs.EqualityLemmas.{options_agree, pairs_agree, sizes_agree}
use Rattle.bz_base.specs.declared.types.SymType.{SymType}
use Rattle.bz_breakpad.specs.Inspect.{Info}
use Rattle.bz_breakpad.proofs.laws.infos_are_equal_by_field.Goals as goal

-- the parts of what is told of a symbol, as one pair
abbrev InfoParts : Type 0
InfoParts = List ℕ × (ℕ × (Option ℕ × (SymType × (Option ℕ × Option (List ℕ)))))

abbrev info_parts : Info → InfoParts
info_parts i = (i.name, (i.addr, (i.size, (i.sym_type, (i.file_offset, i.«module»)))))

abbrev info_whole : InfoParts → Info
info_whole (name, (addr, (size, (sym_type, (file_offset, within))))) = record { name = name; addr = addr; size = size; sym_type = sym_type; file_offset = file_offset; «module» = within }

pub returns-clause-equal : goal.returns-clause-equal
returns-clause-equal c a b =
    let agrees = pairs_agree _ _ (search rules)
    (pairs_agree _ _ (search rules)
    (pairs_agree _ _ (sizes_agree a.size b.size)
    (pairs_agree _ _ (search rules)
    (pairs_agree _ _ (sizes_agree a.file_offset b.file_offset)
    (options_agree _ (λ text. text.now) (λ x y. search rules) a.«module» b.«module»))))) in
    (λ holds. ap info_whole (agrees.0 holds), λ same. agrees.1 (ap info_parts same))
