use Rattle.bz_symq.proofs.StandAloneLemmas.{answers_in_view, process_in_answers}
use Rattle.bz_symq.proofs.laws.process_answers_stand_alone.Goals as goal

pub returns : goal.returns
returns c asking number own addrs world answers agrees is has =
    answers_in_view asking.config number own world agrees addrs answers (process_in_answers asking number own world addrs answers is has)
