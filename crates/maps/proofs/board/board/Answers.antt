use Rattle.maps.proofs.board.board.Goals as goal

pub returns : goal.returns
returns c = cc
