use Rattle.std.proofs.Common.{refl, ap, ◌∙◌, ◌++◌, arith, append_assoc}
use Rattle.std.specs.Prelude.{slice_index_or}
use Rattle.bz_gsym_layout.specs.Layout.{word}
use Rattle.bz_gsym_layout.specs.Pass.{place_at, source_bytes}
use Rattle.bz_gsym_layout.specs.declared.plan.SourceFile.{SourceFile}
use Rattle.bz_gsym_layout.proofs.LoopLemmas.{flat_end, flat_turn}
use Rattle.bz_gsym_layout.proofs.tables.push_files.Goals as goal

-- what stands where no source file does
abbrev no_file : SourceFile
no_file = record { dir = 0; name = 0 }

pub loop-source-init : goal.loop-source-init
loop-source-init c = refl

pub loop-source-preserved : goal.loop-source-preserved
loop-source-preserved c =
    let s = c.loop-source in
    let places = c.args.places.now in
    let x = slice_index_or c.args.sources.now s.source-index no_file in
    flat_turn (source_bytes c.args.places.now) c.args.sources.now s.source-index s.out.items _ s.invariant no_file c.loop-source-test.true c.push_low_word-in-loop-source.new.out.items
    (c.in_ok-push_low_word-2.ensures.ok ∙ ap (λ l. l ++ word 4 (place_at places x.name)) c.in_ok-push_low_word.ensures.ok
    ∙ append_assoc s.out.items (word 4 (place_at places x.dir)) (word 4 (place_at places x.name)))

pub returns-clause-ok : goal.returns-clause-ok
returns-clause-ok c =
    let s = c.loop-source in
    flat_end (source_bytes c.args.places.now) c.args.sources.now s.source-index s.out.items _ s.invariant (omega (arith, c.loop-source-test.false))
