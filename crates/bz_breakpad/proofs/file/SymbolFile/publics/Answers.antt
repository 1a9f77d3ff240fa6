use Rattle.std.proofs.Common.{◌≡◌, ℕ, List, Option, Some, map, ap, ap₂, subst, sym, ◌∙◌}
use Rattle.bz_base.specs.Nearest.{IsTable}
use Rattle.bz_base.specs.Sorting.{sorted}
use Rattle.bz_breakpad_lines.specs.Reader.{table_in}
use Rattle.bz_breakpad_lines.specs.Table.{PublicSymbol, Table}
use Rattle.bz_breakpad_table.specs.Kept.{PublicsFit, kept_public}
use Rattle.bz_breakpad_table.specs.declared.types.KeptPublic.{KeptPublic}
use Rattle.bz_breakpad.specs.Listed.{publics_of}
use Rattle.bz_breakpad.proofs.FileOrderLemmas.{publics_fit, publics_kept}
use Rattle.bz_breakpad.proofs.file.SymbolFile.publics.Goals as goal

pub lend_publics-requires : goal.lend_publics-requires
lend_publics-requires c =
    let bytes = c.self.inside.bytes.items in
    let publics = c.self.inside.table.publics.items in
    let ordered = c.in_ok-sorted.sorted.items in
    let table = subst (λ (ps : List KeptPublic). IsTable (λ (p : KeptPublic). p.start) (λ p. 0) ps ordered) c.deref.ensures.value c.in_ok-sorted.ensures in
    subst (λ (text : List ℕ). PublicsFit text c.deref-2.result.now) (sym c.as_slice.ensures.value)
    (subst (λ (ps : List KeptPublic). PublicsFit bytes ps) (sym c.deref-2.ensures.value) (publics_fit bytes publics ordered table c.self.invariant.stands.fits.publics))

pub returns-clause-publics : goal.returns-clause-publics
returns-clause-publics c =
    let bytes = c.self.inside.bytes.items in
    let publics = c.self.inside.table.publics.items in
    let ordered = c.in_ok-sorted.sorted.items in
    let kept = c.self.invariant in
    let table = subst (λ (ps : List KeptPublic). IsTable (λ (p : KeptPublic). p.start) (λ p. 0) ps ordered) c.deref.ensures.value c.in_ok-sorted.ensures in
    let read : table_in c.args.self.now ≡ Some kept.table = ap table_in (sym c.self.view_is) ∙ kept.read in
    c.in_ok-publics.ensures
    ∙ ap₂ (λ (text : List ℕ) (ps : List KeptPublic). map (kept_public text) ps) c.as_slice.ensures.value c.deref-2.ensures.value
    ∙ publics_kept bytes publics ordered table kept.table.publics kept.stands.publics
    ∙ ap (λ (o : Option Table). sorted (λ (p : PublicSymbol). p.start) (λ p. 0) (publics_of o)) (sym read)
