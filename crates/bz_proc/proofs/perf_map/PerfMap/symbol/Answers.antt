use Rattle.std.proofs.Common.{sym}
use Rattle.bz_base.specs.Nearest.{IsTable}
use Rattle.bz_proc.specs.declared.perf_map.entry.PerfEntry.{PerfEntry}
use Rattle.bz_proc.proofs.PerfAnswerLemmas.{known, named, never_descends, own_table, unknown}
use Rattle.bz_proc.proofs.perf_map.PerfMap.symbol.Goals as goal

pub covering_in-requires : goal.covering_in-requires
covering_in-requires c = rw c.as_slice.ensures.value (never_descends c.self.inside.bytes.items c.self.inside.entries.items c.self.invariant)

pub returns-in_default-clause-answer : goal.returns-in_default-clause-answer
returns-in_default-clause-answer c =
    let bytes = c.self.inside.bytes.items in
    let entries = c.self.inside.entries.items in
    let table : IsTable (λ (e : PerfEntry). e.start) (λ e. e.size) entries c.as_slice.result.now = rw c.as_slice.ensures.value (own_table bytes entries c.self.invariant) in
    rw (← c.self.view_is) (sym (unknown bytes entries c.self.invariant c.args.addr (c.in_default.ensures.covering entries table)))

pub name_at-requires-clause-within : goal.name_at-requires-clause-within
name_at-requires-clause-within c =
    let bytes = c.self.inside.bytes.items in
    let entries = c.self.inside.entries.items in
    let table : IsTable (λ (e : PerfEntry). e.start) (λ e. e.size) entries c.as_slice.result.now = rw c.as_slice.ensures.value (own_table bytes entries c.self.invariant) in
    rw c.as_slice-2.ensures.value (named bytes entries c.self.invariant c.args.addr c.in-Some.entry.now (c.in-Some.ensures.covering entries table)).within

pub name_at-requires-clause-utf8 : goal.name_at-requires-clause-utf8
name_at-requires-clause-utf8 c =
    let bytes = c.self.inside.bytes.items in
    let entries = c.self.inside.entries.items in
    let table : IsTable (λ (e : PerfEntry). e.start) (λ e. e.size) entries c.as_slice.result.now = rw c.as_slice.ensures.value (own_table bytes entries c.self.invariant) in
    rw c.as_slice-2.ensures.value (named bytes entries c.self.invariant c.args.addr c.in-Some.entry.now (c.in-Some.ensures.covering entries table)).utf8

pub returns-clause-answer : goal.returns-clause-answer
returns-clause-answer c =
    let bytes = c.self.inside.bytes.items in
    let entries = c.self.inside.entries.items in
    let table : IsTable (λ (e : PerfEntry). e.start) (λ e. e.size) entries c.as_slice.result.now = rw c.as_slice.ensures.value (own_table bytes entries c.self.invariant) in
    rw (← c.self.view_is, c.new.ensures.items, c.name_at.ensures, c.as_slice-2.ensures.value)
    (sym (known bytes entries c.self.invariant c.args.addr c.in-Some.entry.now (c.in-Some.ensures.covering entries table)))
