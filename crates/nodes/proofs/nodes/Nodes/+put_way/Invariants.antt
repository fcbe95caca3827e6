use Rattle.nodes.proofs.nodes.Nodes.+put_way.Given as goal

abbrev pub decreases-put_way : goal.decreases-put_way
decreases-put_way l = l.most
