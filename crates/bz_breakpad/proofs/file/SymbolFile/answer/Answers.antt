use Rattle.bz_breakpad.proofs.file.SymbolFile.answer.Goals as goal

pub answer_by-requires : goal.answer_by-requires
answer_by-requires g c = record { «record» = λ table is. c.record_at-found.ensures.«record» c.args.self.now table (c.searched.ensures.stands table is) }
