use Rattle.bz_requests.proofs.LineGrammarLemmas.{items_found, items_again, first_bad_found, first_bad_again}
use Rattle.bz_serve.specs.FrameLines.{IsFrame, frame_in}
use Rattle.bz_serve.proofs.FrameLemmas.{frame_agrees, frame_found, frame_again}
use Rattle.bz_serve.proofs.laws.frames_are_read.Goals as goal

pub returns : goal.returns
returns c = record {
  frame = λ text frame. (frame_found text frame, frame_again text frame);
  frames = λ text frames. (items_found frame_in IsFrame frame_agrees text frames, items_again frame_in IsFrame frame_agrees text frames);
  line = λ text n. (first_bad_found frame_in IsFrame frame_agrees text n, first_bad_again frame_in IsFrame frame_agrees text n);
}
