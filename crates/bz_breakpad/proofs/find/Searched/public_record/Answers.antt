use Rattle.std.proofs.Common.{sym, subst, ◌∙◌, arith}
use Rattle.std.specs.List.{slice_index}
use Rattle.bz_base.specs.Starts.{IsAt}
use Rattle.bz_breakpad.proofs.FoundLemmas.{above_for, between_for, public_for}
use Rattle.bz_breakpad.proofs.PublicLemmas.{first_within, keys_never}
use Rattle.bz_breakpad.proofs.find.Searched.public_record.Goals as goal

pub returns-in_default : goal.returns-in_default
returns-in_default c bytes table stands no_function =
    above_for bytes table c.args.self.now.kept.now stands c.args.addr no_function c.args.self.now.publics.now c.requires.searched.publics
    (subst (IsAt c.args.self.now.publics.now.starts c.args.addr) c.in_default.is c.requires.public_found)

pub index-requires : goal.index-requires
index-requires c =
    let kept = c.args.self.now.kept.now in
    let publics = c.args.self.now.publics.now in
    let place = c.in-Some.public_place in
    let at = subst (IsAt publics.starts c.args.addr) c.in-Some.is c.requires.public_found in
    omega (arith, kept.publics.ok.0, first_within kept.publics.items publics c.requires.searched.publics c.args.addr place (slice_index publics.starts place) at c.index-index.result.now c.index-index.ensures)

pub returns-then-starts_between : goal.returns-then-starts_between
returns-then-starts_between c bytes table stands no_function =
    between_for bytes table c.args.self.now.kept.now stands c.args.addr no_function c.args.self.now.publics.now c.requires.searched.publics c.in-Some.public_place
    (subst (IsAt c.args.self.now.publics.now.starts c.args.addr) c.in-Some.is c.requires.public_found) c.index-index.result.now c.index-index.ensures c.index.result.now c.index.ensures
    (sym c.if-starts_between.true ∙ c.starts_between.ensures c.args.addr (keys_never c.args.self.now.kept.now.code stands.keys) c.requires.found)

pub returns-else-starts_between : goal.returns-else-starts_between
returns-else-starts_between c bytes table stands no_function =
    public_for bytes table c.args.self.now.kept.now stands c.args.addr no_function c.args.self.now.publics.now c.requires.searched.publics c.in-Some.public_place
    (subst (IsAt c.args.self.now.publics.now.starts c.args.addr) c.in-Some.is c.requires.public_found) c.index-index.result.now c.index-index.ensures c.index.result.now c.index.ensures
    (sym c.if-starts_between.false ∙ c.starts_between.ensures c.args.addr (keys_never c.args.self.now.kept.now.code stands.keys) c.requires.found)
